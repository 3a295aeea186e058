-- `bit_choice::places_of` meets its contract: the places set so far, and those of the words that are left set after them, are the places of all.
use mathlib.Core.Path.{◌∙◌}
use Rattle.bit_choice.proofs.Choosing.{places_start, places_on, places_end}
use borrow.Author.Rules.{rules}
use Rattle.bit_choice.proofs.places_of.Goals as goal

pub loop-i-init : goal.loop-i-init
loop-i-init c = (search rules, places_start _ _ _)

pub loop-i-preserved : goal.loop-i-preserved
loop-i-preserved c =
    let a = c.args in (
      search rules,
      places_on a.bytes.now a.count c.loop-i.i (search rules) c.word_at.result c.word_at.ensures a.windows
          c.loop-i.places c.place_of.result c.place_of.ensures
          ∙ c.loop-i.invariant.1,
    )

pub returns : goal.returns
returns c =
    let a = c.args in
    let l = c.loop-i in
    places_end a.bytes.now a.count l.i a.windows (search rules) l.places ∙ l.invariant.1
