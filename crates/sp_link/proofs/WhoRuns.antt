-- Nobody runs in the meaning where nobody runs in the machine and no fault stands (`nobody`), and the other way round;
-- the first process has ended on both sides (`root_over`). So deadlock is the same on both.
use Rattle.std.proofs.Common.{◌≡◌, ℕ, [], Option, Some, None, false, refl, ap, ◌∙◌, subst}
use Rattle.sp_cell.specs.Map.{Plain}
use Rattle.sp_meaning.specs.Model.{Name, Ended}
use Rattle.sp_meaning.specs.Steps.{IsAlive as IsLive}
use Rattle.sp_meaning.specs.LocalWork.{Process}
use Rattle.sp_meaning.specs.Runs.{StateOf, running_process}
use Rattle.sp_meaning.specs.Along.{JournalState}
use Rattle.sp_meaning.proofs.Status.{working_lives}
use Rattle.sp_code.specs.Machine.{Config}
use Rattle.sp_code.specs.Memory.{Memory}
use Rattle.sp_code.specs.System.{System, Working, Over}
use Rattle.sp_link.proofs.OneChanges.{runs_as_pr}
use Rattle.sp_link.proofs.Relation.{RunContext, RightsOfAll, Linked, Performs_all}
use Rattle.sp_link.proofs.Replay.{runs_there}
use Rattle.sp_link.proofs.Relation.{stop_of}

module _ (G : RunContext) (lv : RightsOfAll G) (c : JournalState) (s : StateOf G.g) (u : System Plain)
    (l : Linked G lv c s u) where
  -- nobody runs in the meaning, where nobody runs in the machine and no fault stands
  pub nobody : u.faulted ≡ false → ((i : ℕ) (d : Config (Memory Plain)) → u.condition i ≡ Working d → ⊥) → (q : Name)
      → running_process G.g s q ≡ None
  nobody no_fault none q = by (running_process G.g s q) refl
    where
      by : (o : Option Process) → running_process G.g s q ≡ o → o ≡ None
      by None e = refl
      by (Some own) e =
          let n = l.numbered q (λ a. subst (λ x. IsLive x) a (working_lives s.condition q (s.condition q) own e)) in
          let z = runs_there G lv c s u l n.0 n.1 own (ap (λ y. running_process G.g s y) n.2 ∙ e)
          (l.unlaid no_fault (G.births.name n.0)) in
          absurd (none n.0 z.0 z.1)

  -- and the other way round
  pub somebody : (i : ℕ) (d : Config (Memory Plain)) → u.condition i ≡ Working d → (own : Process)
      × (running_process G.g s (G.births.name i) ≡ Some own)
  somebody i d e = (_, runs_as_pr (stop_of G lv c s u l i d e))

  pub root_over : (d : Config (Memory Plain)) → u.condition 0 ≡ Over d → s.condition [] ≡ Ended
  root_over d e =
      let x : Performs_all G lv (G.births.name 0) c s (u.births.opens 0) (Over d) =
      subst (λ y. Performs_all G lv (G.births.name 0) c s (u.births.opens 0) y) e (l.does 0 l.began.root.2) in
      subst (λ y. s.condition y ≡ Ended) x.1 x.0
