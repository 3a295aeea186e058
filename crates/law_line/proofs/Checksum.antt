-- The checksum of a flash session stays below 2^32: a call leaves it, makes it 0, or feeds words to it, and what words feed is below 2^32.
use Rattle.std.specs.Prelude.{Ok, Err}
use Prim.Native.Nat.{ℕ, zero, suc, ◌+◌, ◌*◌, ◌^◌, ◌<◌}
use mathlib.Core.Bool.{Bool}
use mathlib.Core.List.{List, [], ◌∷◌}
use lib.Dec.{lit<}
use lib.ListN.{length, take, drop}
use Rattle.std.specs.declared.result.Result.{Result}
use Rattle.std.specs.declared.result.Result.TheVariants.{Ok, Err}
use Rattle.words.specs.rules.Bytes.{number}
use Rattle.words.proofs.Choice.{of_choice}
use Rattle.checksum.specs.rules.Checksum.{fed}
use Rattle.checksum.proofs.Laws.{fed_lt, fed_words_lt}
use Rattle.opcodes.specs.declared.Command.{Command}
use Rattle.opcodes.specs.declared.Command.TheVariants as command
use Rattle.opcodes.specs.declared.Event.{Event}
use Rattle.opcodes.specs.declared.Event.TheVariants.{Nothing, Wait, Enter}
use Rattle.opcodes.specs.declared.Known.{Known}
use Rattle.ledger.specs.declared.Happening.{Happening}
use Rattle.reading.specs.rules.Reading.{argument, read_at}
use Rattle.reading.specs.declared.Unread.{Unread}
use Rattle.stores.specs.rules.Stores.{words_fed, load_fed}
use Rattle.commands.specs.rules.Commands.{load_judged, done_if, fill_done, setting_done, close_done, sought_from, Judged, Sought}
use Rattle.commands.specs.declared.Done.{Done}
use Rattle.commands.specs.declared.Wrote.{Wrote}
use Rattle.flash_session.specs.rules.Sessions.{CallOutcome, fetching, after}
use Rattle.flash_commands.specs.rules.Commands.{overflowing, sought_as, requested}
use Rattle.flash.specs.rules.Step.{load_at, load_judged_as, performed, followed, step_of}
use Rattle.flash_session.specs.declared.Called.{Called}
use Rattle.flash_session.specs.declared.Session.{Session}

-- a word
abbrev IsWord : ℕ → Type 0
IsWord n = n < 2 ^ 32

-- what a load feeds
words_fed_small : (r n : ℕ) (bytes : List ℕ) → IsWord r → IsWord (words_fed r n bytes)
unfolding words_fed
words_fed_small r zero bytes h = h
words_fed_small r (suc n) bytes h =
    words_fed_small (fed r (number (take 4 bytes)) (8 * length (take 4 bytes))) n (drop 4 bytes) (fed_lt r _ _ h)

load_fed_small : (r address : ℕ) (bytes : List ℕ) → IsWord r → IsWord (load_fed r address bytes)
unfolding load_fed
load_fed_small r address bytes h = words_fed_small _ _ bytes (fed_words_lt r _ h)

-- what a command that was judged leaves
done_small : (j : Judged) (checksum fed : ℕ) (told : Event) → IsWord checksum → IsWord fed → IsWord (done_if j checksum told fed).checksum
done_small (Ok place) checksum fed told h f = f
done_small (Err q) checksum fed told h f = h

module _ (j : Judged) (checksum : ℕ) (h : IsWord checksum) where
  fill_small : (on : Bool) (address size kind pattern : ℕ) → IsWord (fill_done j on checksum address size kind pattern).checksum
  unfolding fill_done
  fill_small on address size kind pattern =
      done_small j checksum _ Nothing h
      (of_choice IsWord on (λ e. fed_words_lt checksum (address ∷ size ∷ kind ∷ pattern ∷ []) h) (λ e. h))

  setting_small : (delay : ℕ) → IsWord (setting_done j checksum delay).checksum
  unfolding setting_done
  setting_small delay = done_small j checksum checksum (Wait delay) h h

  close_small : (address : ℕ) → IsWord (close_done j checksum address).checksum
  unfolding close_done
  close_small address = done_small j checksum checksum (Enter address) h h

module _ (s : Session) (h : IsWord s.checksum) where
  -- of an answer, and of an outcome
  abbrev Small : Called → Type 0
  Small a = IsWord a.session.checksum

  abbrev SmallIn : CallOutcome → Type 0
  SmallIn o = Small o.answer

  after_small : (happened : Happening) (wrote : Wrote) (done : Done) (next : ℕ) → IsWord done.checksum → Small (after s happened wrote done next)
  unfolding after
  after_small happened wrote done next d = of_choice Small _ (λ e. d) (λ e. h)

  load_small : (m image : List ℕ) (next address size : ℕ) (j : Judged) → SmallIn (load_judged_as s m image next address size j)
  unfolding load_at
  load_small m image next address size (Ok place) =
      of_choice SmallIn _ (λ e. h) (λ e. of_choice SmallIn _ (λ e. h) (λ e. of_choice IsWord s.on (λ on. load_fed_small _ _ _ h) (λ off. h)))
  load_small m image next address size (Err q) = h

  sought_small : (led : Sought) → Small (sought_as s led)
  sought_small (Ok offset) = lit< tt
  sought_small (Err q) = lit< tt

  performed_small : (c : Command) (next : ℕ) (m image : List ℕ) → SmallIn (performed c next s m image)
  unfolding requested
  performed_small command.Load next m image =
      let address = argument image s.offset 0 in
      let size = argument image s.offset 1 in
      load_small m image next address size (overflowing s size (load_judged s.windows address size))
  performed_small command.Fill next m image = after_small _ _ _ next (fill_small _ _ h _ _ _ _ _)
  performed_small command.BootTable next m image = after_small _ _ _ next (setting_small _ _ h _)
  performed_small command.Enable next m image = lit< tt
  performed_small command.Disable next m image = h
  performed_small command.Request next m image =
      of_choice Small _ (λ e. lit< tt) (λ e. of_choice Small _ (λ e. lit< tt) (λ e. sought_small (sought_from s.offset _)))
  performed_small command.StartOver next m image = h
  performed_small command.JumpAndClose next m image = after_small _ _ _ next (close_small _ _ h _)
  performed_small command.Ping next m image = h
  performed_small command.SequentialRead next m image = h

-- a call
module _ (s : Session) (m image : List ℕ) (h : IsWord s.checksum) where
  followed_small : (r : Result Known Unread) → SmallIn s h (followed s m image r)
  followed_small (Err said) = h
  followed_small (Ok f) = performed_small (fetching (1 + f.words) s) h f.command _ m image

  pub checksum_small : IsWord (step_of s m image).answer.session.checksum
  unfolding step_of
  checksum_small =
      of_choice (SmallIn s h) _ (λ e. h)
      (λ e. of_choice (SmallIn s h) _ (λ e. h)
      (λ e. of_choice (SmallIn s h) _ (λ e. h) (λ e. followed_small (read_at image s.offset s.dialect))))
