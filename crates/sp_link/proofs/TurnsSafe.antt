-- No turn of a system that is linked lacks what it needs (`turn_safe`), and each has an entry (`goes_on`).
use Rattle.std.proofs.Common.{◌≡◌, ⊎_elim, ◌∷◌, true, false, sym, ◌∙◌}
use Rattle.sp_code.specs.Turns.{IsSafe}
use Rattle.sp_link.proofs.TurnsMeet.{safe}
use Rattle.sp_link.proofs.OneChanges.{q, pr, its, runs_as_pr, light, keeps_to}
use Rattle.sp_link.proofs.Relation.{ops}
use Rattle.sp_link.proofs.Relation.{AtStop}

module _ (at_stop : AtStop) where
  open at_stop use {
    run as G,
    lives as lv,
    course as c,
    state as s,
    configuration as d,
  }

  pub turn_safe : IsSafe (ops G) G.code d
  turn_safe = ⊎_elim
      (λ z. safe G (lv (q at_stop)) (λ k n. lv ((k, n) ∷ q at_stop)) (q at_stop)
      (c.since (q at_stop)) s (pr at_stop) d z (runs_as_pr at_stop)
      (light at_stop) (keeps_to at_stop).last (keeps_to at_stop).fit)
      (λ z b. absurd (let a : false ≡ true = sym z.no_room ∙ b in cc a))
      (its at_stop).2
