-- The story that this product began with, in a register of four lines: in release 2 the priority bit stands just above a door dwell of two bits; in release 3
-- the dwell takes it as a third bit.
use Rattle.std.specs.Prelude.{ℕ, List, [], ◌∷◌, ◌++◌, ◌≡◌, Some, Err, option_map, IsOk}
use Rattle.field_lines.specs.rules.Text.{bytes_of, padded}
use Rattle.field_register.specs.rules.Commands.{command_for}
use Rattle.field_register.specs.rules.Questions.{field_of}
use Rattle.field_register.specs.rules.Reading.{reading_of}
use Rattle.field_register.specs.declared.FieldRefusal.TheVariants.{TooWide}
use Rattle.field_laws.specs.claims.Meanings.{register_of, lines_of, LaterThanAny, Made}
use Rattle.field_laws.specs.claims.WellFormed.{TextOf}

abbrev pub story : List ℕ
story =
    bytes_of "field=dwell word=0x80000010 start=4 stop=5 since=1 until=2\n"
    ++ bytes_of "field=priority word=0x80000010 start=6 stop=6 since=1 until=2\n"
    ++ bytes_of "field=dwell word=0x80000010 start=4 stop=6 since=3 until=0\n"
    ++ bytes_of "field=priority word=0x80000010 start=7 stop=7 since=3 until=0\n"

pub record TheStory : Type 0 where
  pub good : IsOk (reading_of story)
  -- its lines are well-formed, and release 4 is later than any that they name
  pub well_formed : TextOf (lines_of story) story
  pub later : LaterThanAny (lines_of story) 4
  -- bit 6 in release 2, in release 3, and in one later than any named
  pub urgent : option_map (λ l. l.name) (field_of (register_of story) 0x80000010 6 2) ≡ Some (padded (bytes_of "priority"))
  pub longer : option_map (λ l. l.name) (field_of (register_of story) 0x80000010 6 3) ≡ Some (padded (bytes_of "dwell"))
  pub still : option_map (λ l. l.since) (field_of (register_of story) 0x80000010 6 12000) ≡ Some 3
  -- the two commands that make a call urgent, and a dwell that release 2 has no room for
  pub before : Made story (bytes_of "priority") 2 1 (0x58535907 ∷ 0x00060603 ∷ 0x80000010 ∷ 1 ∷ 0 ∷ [])
  pub after : Made story (bytes_of "priority") 3 1 (0x58535907 ∷ 0x00070703 ∷ 0x80000010 ∷ 1 ∷ 0 ∷ [])
  pub too_long : command_for (register_of story) (bytes_of "dwell") 2 5 ≡ Err TooWide
