use Rattle.std.proofs.Common.{◌≡◌, ◌∙◌, ◌+◌, ◌-◌, ◌<◌, ◌++◌, ◌∷◌, [], List, length, ap, sym, arith, drop}
use Rattle.std.specs.Prelude.{reverse}
use Rattle.std.proofs.lemmas.List.{reverse-reverse}
use Rattle.sp_machine.specs.Calls.{returns as addresses}
use Rattle.sp_machine.specs.StackEntries.{entries_of, entry_of}
use Rattle.sp_machine.specs.declared.stack.Operand.{Operand}
use Rattle.sp_machine.proofs.ReturnAddresses.{none_yet, one_more}
use Rattle.sp_machine.proofs.stack.Stack.returns.Goals as goal

pub loop-place-init : goal.loop-place-init
loop-place-init c = c.new-out.ensures ∙ sym (none_yet c.entries-entries.result.now)

pub returns : goal.returns
returns c =
    let xs = c.entries-entries.result.now in
    let none : c.loop-place.place ≡ 0 = omega (arith, c.loop-place-test.false) in
    c.loop-place.invariant ∙ ap (λ n. addresses (entries_of (reverse (drop n xs)))) none
    ∙ ap (λ (ys : List Operand). addresses (entries_of (reverse ys))) c.entries-entries.ensures
    ∙ ap (λ (ys : List Operand). addresses (entries_of ys)) (reverse-reverse c.args.self.now)

pub loop-place-preserved : goal.loop-place-preserved
loop-place-preserved c =
    let xs = c.entries-entries.result.now in
    let p = c.loop-place.place in
    let some = c.loop-place-test.true in
    let most = c.loop-place.auto.place in
    let back : p ≡ (p - 1) + 1 = omega (arith, some) in
    let inside : p - 1 < length xs = omega (arith, some, most) in
    c.in_ok-put_return.ensures
    ∙ ap (λ ys. ys ++ addresses (entry_of c.index-entries-place.result ∷ [])) c.loop-place.invariant
    ∙ one_more xs (p - 1) p c.index-entries-place.result back inside c.index-entries-place.is
