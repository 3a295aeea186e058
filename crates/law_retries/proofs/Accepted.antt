-- A command none of whose units is refused is granted by the map, passes no largest total and finds a number: a refusal would have been said at the word that
-- decides.
use Prim.Native.Nat.{ℕ}
use mathlib.Core.Bool.{Bool, true}
use mathlib.Core.List.{List, [], ◌∷◌}
use mathlib.Core.Path.{◌≡◌}
use lib.ListN.{length}
use Rattle.windows.specs.rules.Window.{sum_of}
use Rattle.windows.specs.declared.Window.{Window}
use Rattle.opcodes.specs.declared.Command.{Command}
use Rattle.opcodes.specs.declared.Command.TheVariants as command
use Rattle.opcodes.specs.declared.Dialect.{Dialect}
use Rattle.opcodes.specs.declared.Refusal.TheVariants as why
use Rattle.ledger.specs.rules.Totals.{is_spent, settled, turned}
use Rattle.ledger.specs.declared.Totals.{Totals}
use Rattle.commands.specs.rules.Commands.{load_judged, fill_judged, fill_done, setting_judged, setting_done, Judged}
use Rattle.commands.proofs.Judging.{granted_before, load_passes, fill_passes, setting_passes}
use Rattle.sent.specs.rules.Bus.{all_units}
use Rattle.sent.specs.rules.Feeding.{NoneRefused}
use Rattle.machine_answers.specs.rules.Answers.{tallied}
use Rattle.machine_answers.specs.rules.Counts.{out_of_numbers, overflowing}
use Rattle.machine.specs.claims.Words.{done_at_last}
use Rattle.sent.specs.declared.Bus.{Bus}
use Rattle.machine_answers.specs.declared.Core.{Core}
use Rattle.machine_answers.specs.declared.Phase.TheVariants.{Opcode}
use Rattle.machine_answers.specs.declared.Tally.{Tally}
use Rattle.machine_loads.proofs.Granted.{GrantedAt, Numbered, numbers, last_numbered, section_numbered, section_counts, load_not_refused, done_not_refused}
use Rattle.law_retries.specs.claims.Pieces.{Piece, load, fill, setting, words_of, Sendable, judged_of, load_opcode, fill_opcode, setting_opcode}
use Rattle.law_retries.proofs.Taking.{write_of, Room, running, awaiting, load_apart, fill_apart, setting_apart, load_row, fill_row, setting_row}
use Rattle.law_retries.proofs.Taking.{command_accepted}

-- what the map refuses has a refusal's number
judged_numbered : (windows : List Window) (c : Piece) → Numbered (judged_of windows c)
judged_numbered windows (load address size contents) = load_passes _ numbers windows address size
judged_numbered windows (fill address size kind pattern) = fill_passes _ numbers windows address size kind
judged_numbered windows (setting word address value delay) = setting_passes _ numbers windows word address value

-- what is granted, 18 and 25 among what it is judged by, is granted without them, passes no largest total and finds a number
pub record Fits (windows : List Window) (dialect : Dialect) (t : Totals) (c : Piece) : Type 0 where
  pub at : GrantedAt (judged_of windows c)
  pub fits : Room dialect t (write_of c)

-- the core in which a command is judged
abbrev within : List Window → Dialect → Bool → Tally → Command → Core
within windows dialect on tally c = running windows dialect on true (tallied tally.checksum (turned c tally.totals)) Opcode

pub piece_accepted : (bus : Bus) (windows : List Window) (dialect : Dialect) (on begun : Bool) (tally : Tally) (m : List ℕ) → length m ≡ sum_of windows
    → (c : Piece)
    → Sendable c → NoneRefused bus (awaiting windows dialect on begun tally m) (all_units bus (words_of c)) → Fits windows dialect tally.totals c
unfolding done_at_last fill_done setting_done
piece_accepted bus windows dialect on begun tally m lent (load address size contents) sendable n =
    let k = within windows dialect on tally command.Load in
    let judged : Judged = load_judged windows address size in
    let g =
    load_not_refused _ address size (out_of_numbers k (overflowing k size judged))
    (section_numbered k size judged (judged_numbered windows (load address size contents)))
    (command_accepted bus windows dialect on begun tally m lent load_opcode command.Load address (size ∷ []) load_apart
    (load_row dialect) (sendable.0.1.0, (sendable.0.1.1.0, tt)) contents n) in
    let counts = section_counts k size judged g.place g.granted in
    record { at = record { place = g.place; granted = counts.granted }; fits = (counts.fits, counts.unspent) }
piece_accepted bus windows dialect on begun tally m lent (fill address size kind pattern) sendable n =
    let k = within windows dialect on tally command.Fill in
    let judged : Judged = fill_judged windows address size kind in
    let g =
    done_not_refused _ _ (out_of_numbers k (overflowing k size judged)) _ _ _
    (section_numbered k size judged (judged_numbered windows (fill address size kind pattern)))
    (command_accepted bus windows dialect on begun tally m lent fill_opcode command.Fill address (size ∷ kind ∷ pattern ∷ []) fill_apart
    (fill_row dialect) sendable.0.1 [] n) in
    let counts = section_counts k size judged g.place g.granted in
    record { at = record { place = g.place; granted = counts.granted }; fits = (counts.fits, counts.unspent) }
piece_accepted bus windows dialect on begun tally m lent (setting word address value delay) sendable n =
    let k = within windows dialect on tally command.BootTable in
    let judged : Judged = setting_judged windows word address value in
    let g =
    done_not_refused _ _ (out_of_numbers k judged) _ _ _ (last_numbered k judged (judged_numbered windows (setting word address value delay)))
    (command_accepted bus windows dialect on begun tally m lent setting_opcode command.BootTable word (address ∷ value ∷ delay ∷ []) setting_apart
    (setting_row dialect) sendable.0.1 [] n) in
    let parts = granted_before (is_spent (settled tally.totals)) why.Number judged g.place g.granted in
    record { at = record { place = g.place; granted = parts.1 }; fits = parts.0 }
