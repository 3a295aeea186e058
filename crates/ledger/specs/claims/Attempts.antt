-- What an abandoned attempt leaves of the totals and of the next number (02, requests 5 and 6, and demand 3): nothing, where it begins at a point that a retry
-- goes back to.
use Rattle.std.specs.Prelude.{◌≡◌, ℕ, Bool, true, false, List, [], ◌∷◌}
use Rattle.words.specs.rules.Choice.{pick}
use Rattle.opcodes.specs.declared.Command.TheVariants as command
use Rattle.opcodes.specs.declared.Dialect.{Dialect}
use Rattle.opcodes.specs.declared.Dialect.TheVariants.{Dm648}
use Rattle.ledger.specs.rules.Totals.{at_opening, from_one, counted, numbered, settled, turned}
use Rattle.ledger.specs.declared.Totals.{Totals}

-- a command that writes: a load or a fill is a section of so many bytes, a setting is none
pub data Write : Type 0 where
  section : ℕ → Write
  setting : Write

-- such a command in sent mode, its opcode taken and itself accepted: it takes a number
abbrev pub wrote : Dialect → Totals → Write → Totals
wrote dialect t (section size) = numbered (counted dialect (turned command.Load t) size)
wrote dialect t setting = numbered (turned command.BootTable t)

-- several, one after the other
unfoldable pub wrote_all : Dialect → Totals → List Write → Totals
wrote_all dialect t [] = t
wrote_all dialect t (w ∷ ws) = wrote_all dialect (wrote dialect t w) ws

-- an attempt: commands that write, none or more; perhaps a Request; a Start-Over
abbrev pub abandoned : Dialect → Totals → List Write → Bool → Totals
abandoned dialect t writes asked =
    turned command.StartOver (pick asked (turned command.Request (wrote_all dialect t writes)) (wrote_all dialect t writes))

-- where an attempt may begin: what stands now is the mark, and the next number its own, once a Request that stands is settled
abbrev pub Level : Totals → Type 0
Level t = ((settled t).now ≡ (settled t).mark) × ((settled t).next ≡ (settled t).back)

-- is it a Start-Over alone, directly after a Request?
abbrev pub alone : Totals → List Write → Bool → Bool
alone t [] false = t.asked
alone t [] true = false
alone t (w ∷ ws) asked = false

-- an attempt leaves the totals as they stood, settled; and whatever opcode but Start-Over comes next, it does the same to them as if they had not been settled
pub record NoTotalLeft : Type 0 where
  pub abandons : (dialect : Dialect) (t : Totals) (writes : List Write) (asked : Bool) → Level t → alone t writes asked ≡ false
      → abandoned dialect t writes asked ≡ settled t
  pub follows : (dialect : Dialect) (t : Totals) (w : Write) (ws : List Write) → wrote_all dialect (settled t) (w ∷ ws) ≡ wrote_all dialect t (w ∷ ws)

-- where attempts may begin: at an opening, and just after each of three opcodes, whatever stood before; and what an attempt leaves is such a place
pub record LevelThere : Type 0 where
  pub at-opening : Level at_opening
  pub after_enable : (t : Totals) → Level (turned command.Enable t)
  pub after-request : (t : Totals) → Level (turned command.Request t)
  pub after_start_over : (t : Totals) → Level (turned command.StartOver t)
  pub after_settling : (t : Totals) → Level t → Level (settled t)

-- that the number is level is needed too: just after a setting the totals stand at their mark, and the number does not
pub record SettingIsNotLevel : Type 0 where
  pub stands : (wrote Dm648 (from_one at_opening) setting).now ≡ (wrote Dm648 (from_one at_opening) setting).mark
  pub next : (wrote Dm648 (from_one at_opening) setting).next ≡ 2
  pub left : (abandoned Dm648 (wrote Dm648 (from_one at_opening) setting) [] false).next ≡ 1

-- that it is not alone is needed: a load of five bytes and a Request, then a Start-Over takes the load back
abbrev pub five_loaded : Totals
five_loaded = turned command.Request (wrote Dm648 at_opening (section 5))

pub record AloneTakesBack : Type 0 where
  pub level : Level five_loaded
  pub stood : (settled five_loaded).now.bytes.0 ≡ 5
  pub back : abandoned Dm648 five_loaded [] false ≡ at_opening
