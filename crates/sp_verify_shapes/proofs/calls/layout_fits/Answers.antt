use Rattle.std.proofs.Common.{sym, ◌∙◌, ap, refl, subst, List, length, slice_get, arith}
use Rattle.std.proofs.lemmas.Option.{slice_get_read, slice_get_within}
use Rattle.sp_code.specs.declared.code.Formal.{Formal}
use Rattle.sp_verify_shapes.specs.declared.asks.Ask.{Ask}
use Rattle.sp_verify_shapes.specs.Asks.{AreAsks}
use Rattle.sp_verify_shapes.specs.Fits.{first_fit}
use Rattle.sp_verify_shapes.specs.Seen.{AddsSeen, AreSeenOf}
use Rattle.sp_verify_shapes.specs.Stacks.{list_of}
use Rattle.sp_verify_shapes.proofs.SeenJumps.{seen_after, seen_of}
use Rattle.sp_verify_shapes.proofs.calls.layout_fits.Goals as goal

pub fit_formals-requires-clause-asks : goal.fit_formals-requires-clause-asks
fit_formals-requires-clause-asks c =
    let place = c.args.place in
    let l = c.in-Some.l.now in
    let xs = c.index-items-place.result in
    let rows = c.items-in-Some.result.now in
    let there = sym c.in-Some.ensures in
    let within = slice_get_within c.args.layouts.now place l there in
    let size = c.requires.asked.size in
    let n = ap (λ (ys : List (List Ask)). length ys) c.items-in-Some.ensures in
    let row = slice_get_read rows (length rows) place xs refl (omega (arith, within, size, n)) c.index-items-place.is in
    subst (λ fs. AreAsks fs xs) (sym c.items.ensures)
    (c.requires.asked.each place l xs there
    (ap (λ (ys : List (List Ask)). slice_get ys place) (sym c.items-in-Some.ensures) ∙ row))

pub fit_formals-requires-clause-known : goal.fit_formals-requires-clause-known
fit_formals-requires-clause-known c =
    let st = c.args.shapes.now.stacks in
    let l = c.in-Some.l.now in
    subst (λ fs. AreSeenOf fs st c.args.place c.args.seen.now) (sym c.items.ensures)
    (seen_of c.args.layouts.now st c.args.place l c.args.seen.now (sym c.in-Some.ensures) c.requires.known)

pub returns-in-Some-clause-known : goal.returns-in-Some-clause-known
returns-in-Some-clause-known c = λ whole.
    let st = c.args.shapes.now.stacks in
    let ss = list_of st c.args.n in
    let l = c.in-Some.l.now in
    let b = λ (fs : List Formal). first_fit fs (length fs) ss in
    seen_after c.args.layouts.now st c.args.place l (b l.formals) c.args.seen.now c.fit_formals.new.seen
    (sym c.in-Some.ensures) (ap b (sym c.items.ensures) ∙ sym c.fit_formals.ensures.fit ∙ whole)
    (subst (λ fs. AddsSeen st fs c.args.place (b fs) c.args.seen.now c.fit_formals.new.seen) c.items.ensures
    c.fit_formals.ensures.adds)
    c.requires.known
