-- An attempt leaves no total and no number behind: its first opcode settles what it finds, so that the mark is what stood where it began, and nothing up to its
-- Start-Over moves the mark.
use Rattle.std.proofs.Common.{◌≡◌, Bool, true, false, List, [], ◌∷◌, sym, refl, ap, ◌∙◌}
use Rattle.words.specs.rules.Choice.{pick}
use Rattle.opcodes.specs.declared.Dialect.{Dialect}
use Rattle.ledger.specs.rules.Totals.{counted, following, numbered, settled, asking, put_back}
use Rattle.ledger.specs.claims.Attempts.{Write, section, setting, wrote, wrote_all, abandoned, Level, alone, NoTotalLeft, LevelThere, SettingIsNotLevel}
use Rattle.ledger.specs.claims.Attempts.{AloneTakesBack}
use Rattle.ledger.specs.declared.Totals.{Totals}
use Rattle.ledger.proofs.Laws.{stays, settled_asks_nothing, settled_once, counted_keeps, put_back_counted, put_back_numbered, put_back_asking}

-- one command more or less makes no difference to what a Start-Over after it leaves, once the totals are settled
put_back_wrote : (dialect : Dialect) (t : Totals) (w : Write) → put_back (wrote dialect t w) ≡ put_back (settled t)
put_back_wrote dialect t (section size) = put_back_numbered (counted dialect (settled t) size) ∙ put_back_counted dialect (settled t) size
put_back_wrote dialect t setting = put_back_numbered (settled t)

-- a command leaves no Request standing
wrote_settled : (dialect : Dialect) (t : Totals) (w : Write) → settled (wrote dialect t w) ≡ wrote dialect t w
wrote_settled dialect t (section size) = stays _ ((counted_keeps dialect (settled t) size).1 ∙ settled_asks_nothing t)
wrote_settled dialect t setting = stays _ (settled_asks_nothing t)

-- nor do several, and they make no difference to a Start-Over either
all_settled : (dialect : Dialect) (t : Totals) (ws : List Write) → settled t ≡ t → settled (wrote_all dialect t ws) ≡ wrote_all dialect t ws
unfolding wrote_all
all_settled dialect t [] e = e
all_settled dialect t (w ∷ ws) e = all_settled dialect (wrote dialect t w) ws (wrote_settled dialect t w)

put_back_all : (dialect : Dialect) (t : Totals) (ws : List Write) → settled t ≡ t → put_back (wrote_all dialect t ws) ≡ put_back t
unfolding wrote_all
put_back_all dialect t [] e = refl
put_back_all dialect t (w ∷ ws) e =
    put_back_all dialect (wrote dialect t w) ws (wrote_settled dialect t w) ∙ put_back_wrote dialect t w ∙ ap put_back e

-- what stands at a level place is its mark
put_back_level : (t : Totals) → Level t → put_back (settled t) ≡ settled t
put_back_level t level =
    sym (rebuilt (settled t) level.0 level.1 (settled_asks_nothing t))
  where
    rebuilt : (u : Totals) → u.now ≡ u.mark → u.next ≡ u.back → u.asked ≡ false → u ≡ put_back u
    rebuilt u now next none = rw (sym none, sym now, sym next)

begun : (dialect : Dialect) (t : Totals) (w : Write) (ws : List Write) → Level t → put_back (wrote_all dialect (wrote dialect t w) ws) ≡ settled t
begun dialect t w ws level =
    put_back_all dialect (wrote dialect t w) ws (wrote_settled dialect t w) ∙ put_back_wrote dialect t w ∙ put_back_level t level

abandons : (dialect : Dialect) (t : Totals) (writes : List Write) (asked : Bool) → Level t → alone t writes asked ≡ false
    → abandoned dialect t writes asked ≡ settled t
unfolding pick wrote_all
abandons dialect t [] false level here = ap put_back (sym (stays t here)) ∙ put_back_level t level
abandons dialect t [] true level here = put_back_level t level
abandons dialect t (w ∷ ws) false level here = begun dialect t w ws level
abandons dialect t (w ∷ ws) true level here =
    ap (λ (u : Totals). put_back (asking u)) (all_settled dialect (wrote dialect t w) ws (wrote_settled dialect t w))
    ∙ put_back_asking (wrote_all dialect (wrote dialect t w) ws)
    ∙ begun dialect t w ws level

follows_one : (dialect : Dialect) (t : Totals) (w : Write) → wrote dialect (settled t) w ≡ wrote dialect t w
follows_one dialect t (section size) = ap (λ (u : Totals). numbered (counted dialect u size)) (settled_once t)
follows_one dialect t setting = ap numbered (settled_once t)

follows : (dialect : Dialect) (t : Totals) (w : Write) (ws : List Write) → wrote_all dialect (settled t) (w ∷ ws) ≡ wrote_all dialect t (w ∷ ws)
unfolding wrote_all
follows dialect t w ws = ap (λ (u : Totals). wrote_all dialect u ws) (follows_one dialect t w)

pub no_total_left : NoTotalLeft
no_total_left = record { abandons = abandons; follows = follows }

pub level_there : LevelThere
unfolding pick
level_there =
    record {
      at-opening = (refl, refl);
      after_enable = λ t. (refl, refl);
      after-request = λ t. (refl, refl);
      after_start_over = λ t. (refl, refl);
      after_settling = λ t level. rw (settled_once t) level;
    }

pub setting_is_not_level : SettingIsNotLevel
unfolding pick wrote_all following
setting_is_not_level = record { stands = refl; next = refl; left = refl }

pub alone_takes_back : AloneTakesBack
unfolding pick wrote_all following
alone_takes_back = record { level = (refl, refl); stood = refl; back = refl }
