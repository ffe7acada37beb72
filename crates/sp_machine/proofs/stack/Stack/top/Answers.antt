use Rattle.std.proofs.Common.{◌≡◌, ◌-◌, ◌≤◌, List, length, take, drop, ap, sym, subst, ◌∙◌}
use Rattle.std.specs.Prelude.{reverse}
use Rattle.sp_machine.specs.declared.stack.Operand.{Operand}
use Rattle.sp_machine.proofs.StackLaws.{top_part}
use Rattle.sp_machine.proofs.stack.Stack.top.Goals as goal

pub returns : goal.returns
returns c =
    let enough : c.args.count ≤ length (reverse c.self.inside.entries.items) =
    subst (λ (ys : List Operand). c.args.count ≤ length ys) (sym c.self.view_is) c.requires in
    subst (λ (xs : List Operand). take (length xs - (length xs - c.args.count)) (drop (length xs - c.args.count) xs)
    ≡ reverse (take c.args.count c.args.self.now)) (sym c.as_slice-entries.ensures.value)
    (top_part c.self.inside.entries.items c.args.count enough
    ∙ ap (λ (ys : List Operand). reverse (take c.args.count ys)) c.self.view_is)
