use Rattle.std.proofs.Common.{◌≡◌, ◌+◌, ◌<◌, ℕ, List, length, get_or, arith, ap, subst, ◌∙◌, [], ◌∷◌}
use Rattle.std.proofs.lemmas.List.{length-append}
use Rattle.sp_cell.specs.declared.spot.Handing.{Handing}
use Rattle.sp_machine.specs.Children.{AreBornSo}
use Rattle.sp_machine.proofs.ForkPlans.{born_at, born_pushed}
use Rattle.sp_machine.proofs.state.State.children.Goals as goal

pub loop-handing-preserved : goal.loop-handing-preserved
loop-handing-preserved c =
    let inside : c.loop-handing.handing-index < length c.args.plan.now =
    omega (arith, ap length c.items-handing-items.ensures, c.loop-handing-test.true) in record {
      place = ap (λ k. k + 1) c.loop-handing.invariant.place;
      many = ap length c.in_ok-push.ensures.items
          ∙ length-append c.loop-handing.children.items (c.in-Ok-child.value ∷ [])
          ∙ ap (λ k. k + 1) c.loop-handing.invariant.many;
      born = born_pushed c.loop-handing.children.items c.push.new.self.items c.in-Ok-child.value c.args.plan.now
          c.args.table.now c.args.number c.args.self.now c.loop-handing.handing-index c.handing-item.result
          c.in_ok-push.ensures.items c.loop-handing.invariant.many
          (c.handing-item.is ∙ ap (λ (hs : List Handing). get_or hs c.loop-handing.handing-index
          c.handing-item.result) c.items-handing-items.ensures) inside c.loop-handing.invariant.born
          (born_at c.in-Ok-child.value c.handing-item.result c.args.table.now c.args.number c.loop-handing.k
          c.loop-handing.handing-index c.from.result c.beginning-entry.result.0 c.beginning-entry.result.1
          c.in-Ok.value c.args.self.now
          c.in-Ok-child.ensures c.in-Ok.ensures c.beginning-entry.ensures.entry c.beginning-entry.ensures.index
          c.from.ensures c.loop-handing.invariant.place);
    }

pub returns : goal.returns
returns c =
    let all : c.loop-handing.handing-index ≡ length c.args.plan.now =
    omega (arith, ap length c.items-handing-items.ensures, c.loop-handing-test.false) in (
      c.loop-handing.invariant.many ∙ all,
      subst
          (λ (n : ℕ). AreBornSo c.loop-handing.children.items c.args.plan.now c.args.table.now c.args.number
          c.args.self.now n) all c.loop-handing.invariant.born,
    )
