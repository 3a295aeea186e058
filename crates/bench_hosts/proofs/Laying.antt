-- Numbers of commands and waits, and a host laid into bytes: words and bytes stored one after the other are the host written out.
use Prim.Native.Nat.{ℕ}
use mathlib.Core.List.{List, [], ◌++◌}
use mathlib.Core.Logic.{◌≢◌}
use mathlib.Core.Path.{◌≡◌, sym, ap, ◌∙◌}
use native.Mathlib.Omega.{arith}
use lib.ListN.{length, drop}
use lib.Seq.{sets, sets-eq, drop-length}
use borrow.Author.Tests.{eq-eqb, ne_eqb}
use Rattle.words.specs.rules.Bytes.{words_bytes}
use Rattle.words.specs.rules.Choice.{pick}
use Rattle.words.proofs.Choice.{chosen, passed}
use Rattle.opcodes.specs.declared.Command.{Command}
use Rattle.opcodes.specs.declared.Command.TheVariants.{SequentialRead}
use Rattle.host_answers.specs.declared.Host.{Host}
use Rattle.host_answers.specs.declared.Wait.TheVariants.{Closing}
use Rattle.bench_hosts.specs.rules.HostBytes.{host_bytes, command_of, wait_of, host_words, host_marks, written_host, host_laid}

-- past the numbers that are named
pub other_command : (n : ℕ) → n ≢ 0 → n ≢ 1 → n ≢ 2 → n ≢ 3 → n ≢ 4 → n ≢ 5 → n ≢ 6 → n ≢ 7 → n ≢ 8
    → SequentialRead ≡ command_of n
unfolding command_of pick
other_command n a b c d e f g h i =
    rw (ne_eqb n 0 a, ne_eqb n 1 b, ne_eqb n 2 c, ne_eqb n 3 d, ne_eqb n 4 e, ne_eqb n 5 f, ne_eqb n 6 g, ne_eqb n 7 h, ne_eqb n 8 i)

pub other_wait : (n : ℕ) (command : Command) (value : ℕ) → n ≢ 0 → n ≢ 1 → n ≢ 2 → n ≢ 3 → n ≢ 4 → n ≢ 5 → n ≢ 6
    → Closing ≡ wait_of n command value
unfolding wait_of pick
other_wait n command value a b c d e f g =
    rw (ne_eqb n 0 a, ne_eqb n 1 b, ne_eqb n 2 c, ne_eqb n 3 d, ne_eqb n 4 e, ne_eqb n 5 f, ne_eqb n 6 g)

-- another length than a host's
pub not_laid : (m : List ℕ) (h : Host) → length m ≢ host_bytes → m ≡ host_laid m h
unfolding host_laid
not_laid m h other = sym (passed _ _ _ (ne_eqb _ _ other))

-- all of a host
pub all_laid : (m : List ℕ) (h : Host) → length m ≡ host_bytes → sets (sets m 0 (words_bytes (host_words h))) 32 (host_marks h) ≡ host_laid m h
unfolding host_laid written_host
all_laid m h e =
    let full : drop 41 m ≡ [] = ap (λ (k : ℕ). drop k m) (sym e) ∙ drop-length m in
    sets-eq (written_host h) m 0 (omega (arith, e))
    ∙ ap (λ (l : List ℕ). written_host h ++ l) full
    ∙ sym (chosen _ _ _ (eq-eqb _ _ e))

-- a host laid into the bytes of one
pub laid : (m : List ℕ) (h : Host) → length m ≡ host_bytes → host_laid m h ≡ written_host h
unfolding host_laid
laid m h e = chosen _ _ _ (eq-eqb _ _ e)
