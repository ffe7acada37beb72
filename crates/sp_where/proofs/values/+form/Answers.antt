use Rattle.std.proofs.Common.{rules, ◌∙◌, ◌++◌, ◌+◌, ◌-◌, [], ◌∷◌, ap, sym, subst, map, drop, codes, length, refl, Some}
use Rattle.std.specs.Prelude.{replicate, take}
use Rattle.std.proofs.lemmas.Bool.{leb-true}
use Rattle.sp_tree.specs.declared.checked.KindOf.TheVariants as kind
use Rattle.sp_where.specs.Shorts.{AddsShort, CoversForm, Fills, forms}
use Rattle.sp_where.specs.Values.{Fixed, comma, field_in, form_in, parts_from}
use Rattle.sp_where.proofs.PieceLists.{both, fixed, goes_on, short, stops}
use Rattle.sp_where.proofs.Forms.{cell_form, elements_more, fields_more, form_of_kind, no_form}
use Rattle.sp_where.proofs.values.+form.Goals as goal

pub put_elements-elements-preserved : goal.put_elements-elements-preserved
put_elements-elements-preserved t c =
    let v = c.args.shown.now in
    let x = form_in (take c.args.bound (forms v)) c.args.element in
    let i = c.elements.i in
    let rest = parts_from (i + 1) (replicate (c.args.count - (i + 1)) x) in
    let whole = parts_from 0 (replicate c.args.count x) in
    let inv = subst (λ ps. CoversForm v c.args.out.now c.args.cells.now c.elements.out c.elements.left.now ps whole)
    (elements_more c.args.count i x c.elements-test.true) c.elements.invariant in
    goes_on v c.args.out.now c.elements.out c.put_before-left.new.out c.args.cells.now c.elements.left.now
    c.put_before-left.result.now (Fixed (comma i) ∷ x) rest whole inv
    (both v c.elements.out c.put_comma.new.out c.put_before-left.new.out c.elements.left.now c.elements.left.now
    c.put_before-left.result.now (Fixed (comma i) ∷ []) x
    (fixed v c.elements.out c.put_comma.new.out (comma i) c.elements.left.now
    (short v.most c.elements.out c.put_comma.new.out (comma i) c.put_comma.ensures)) c.put_before-left.ensures)

pub put_fields-returns-then-is_full : goal.put_fields-returns-then-is_full
put_fields-returns-then-is_full t c =
    let v = c.args.shown.now in
    let known = take c.args.bound (forms v) in
    stops v c.args.out.now c.fields.out c.args.cells.now c.fields.left.now c.fields.left.now
    (parts_from c.fields.i (map (field_in known) (drop c.fields.i c.args.fields.now)))
    (parts_from 0 (map (field_in known) c.args.fields.now)) c.fields.invariant
    (leb-true v.most (length c.fields.out.items.items) (sym c.if-is_full.ensures))

pub put_fields-fields-preserved : goal.put_fields-fields-preserved
put_fields-fields-preserved t c =
    let v = c.args.shown.now in
    let known = take c.args.bound (forms v) in
    let fs = c.args.fields.now in
    let i = c.fields.i in
    let f = c.index-fields-i.result in
    let left = c.fields.left.now in
    let end = c.put_before-left.result.now in
    let rest = parts_from (i + 1) (map (field_in known) (drop (i + 1) fs)) in
    let whole = parts_from 0 (map (field_in known) fs) in
    let inv = subst (λ ps. CoversForm v c.args.out.now c.args.cells.now c.fields.out left ps whole)
    (fields_more known fs i f c.fields-test.true
    ∙ ap (λ g. (Fixed (comma i) ∷ field_in known g) ++ rest) (sym c.index-fields-i.is)) c.fields.invariant in
    let comma_put = fixed v c.fields.out c.put_comma.new.out (comma i) left
    (short v.most c.fields.out c.put_comma.new.out (comma i) c.put_comma.ensures) in
    let name_put = fixed v c.put_comma.new.out c.put_short.new.out f.0 left
    (subst (λ t. AddsShort v.most c.put_comma.new.out c.put_short.new.out t) c.bytes.ensures c.put_short.ensures) in
    let colon_put = fixed v c.put_short.new.out c.extend.new.self (codes ": ") left
    (short v.most c.put_short.new.out c.extend.new.self (codes ": ") c.extend.ensures) in
    goes_on v c.args.out.now c.fields.out c.put_before-left.new.out c.args.cells.now left end
    (Fixed (comma i) ∷ field_in known f) rest whole inv
    (both v c.fields.out c.put_comma.new.out c.put_before-left.new.out left left end (Fixed (comma i) ∷ [])
    (field_in known f) comma_put
    (both v c.put_comma.new.out c.put_short.new.out c.put_before-left.new.out left left end (Fixed f.0 ∷ [])
    (Fixed (codes ": ") ∷ form_in known f.1) name_put
    (both v c.put_short.new.out c.extend.new.self c.put_before-left.new.out left left end (Fixed (codes ": ") ∷ [])
    (form_in known f.1) colon_put c.put_before-left.ensures)))

pub put_form-returns-in-None : goal.put_form-returns-in-None
put_form-returns-in-None t c =
    let v = c.args.shown.now in
    subst (λ ps. Fills v c.args.out.now c.args.cells.now c.args.out.now c.args.cells.now ps)
    (sym (no_form v.symbols.now.checked.kinds c.args.kind (sym c.in-None.ensures))) (λ kept. (kept, λ more. refl))

pub put_form-returns-in-Some-Array : goal.put_form-returns-in-Some-Array
put_form-returns-in-Some-Array t c =
    let v = c.args.shown.now in
    let old = c.args.out.now in
    let cells = c.args.cells.now in
    let left = c.put_elements-left.result.now in
    let known = take c.args.kind (forms v) in
    let it = c.in-Some-Array in
    let parts = parts_from 0 (replicate c.count.result (form_in known it.element)) in
    let opened = fixed v old c.extend.new.self (codes "[") cells
    (short v.most old c.extend.new.self (codes "[") c.extend.ensures) in
    let closed = fixed v c.put_elements-left.new.out c.extend-in-Some-Array.new.self (codes "]") left
    (short v.most c.put_elements-left.new.out c.extend-in-Some-Array.new.self (codes "]")
    c.extend-in-Some-Array.ensures) in
    subst (λ ps. Fills v old cells c.extend-in-Some-Array.new.self left ps)
    (ap (λ n. (Fixed (codes "[") ∷ parts_from 0 (replicate n (form_in known it.element)))
    ++ (Fixed (codes "]") ∷ [])) (c.count.ensures ∙ search rules)
    ∙ sym (form_of_kind v.symbols.now.checked.kinds c.args.kind (kind.Array it.low it.high it.field-0-2 it.element)
    (sym it.ensures ∙ ap Some it.field-0-is)))
    (both v old c.extend.new.self c.extend-in-Some-Array.new.self cells cells left (Fixed (codes "[") ∷ [])
    (parts ++ (Fixed (codes "]") ∷ [])) opened
    (both v c.extend.new.self c.put_elements-left.new.out c.extend-in-Some-Array.new.self cells left left parts
    (Fixed (codes "]") ∷ []) c.put_elements-left.ensures closed))

pub put_form-returns-in-Some-Fields : goal.put_form-returns-in-Some-Fields
put_form-returns-in-Some-Fields t c =
    let v = c.args.shown.now in
    let old = c.args.out.now in
    let cells = c.args.cells.now in
    let left = c.put_fields-left.result.now in
    let known = take c.args.kind (forms v) in
    let it = c.in-Some-Fields in
    let parts = parts_from 0 (map (field_in known) c.items.result.now) in
    let opened = fixed v old c.extend-in-Some-Fields.new.self (codes "(") cells
    (short v.most old c.extend-in-Some-Fields.new.self (codes "(") c.extend-in-Some-Fields.ensures) in
    let closed = fixed v c.put_fields-left.new.out c.extend-in-Some-Fields-2.new.self (codes ")") left
    (short v.most c.put_fields-left.new.out c.extend-in-Some-Fields-2.new.self (codes ")")
    c.extend-in-Some-Fields-2.ensures) in
    subst (λ ps. Fills v old cells c.extend-in-Some-Fields-2.new.self left ps)
    (ap (λ fs. (Fixed (codes "(") ∷ parts_from 0 (map (field_in known) fs)) ++ (Fixed (codes ")") ∷ []))
    c.items.ensures
    ∙ sym (form_of_kind v.symbols.now.checked.kinds c.args.kind (kind.Fields it.fields)
    (sym it.ensures ∙ ap Some it.field-0-is)))
    (both v old c.extend-in-Some-Fields.new.self c.extend-in-Some-Fields-2.new.self cells cells left
    (Fixed (codes "(") ∷ []) (parts ++ (Fixed (codes ")") ∷ [])) opened
    (both v c.extend-in-Some-Fields.new.self c.put_fields-left.new.out c.extend-in-Some-Fields-2.new.self cells left
    left parts (Fixed (codes ")") ∷ []) c.put_fields-left.ensures closed))

pub put_form-returns-in-Some-Integer : goal.put_form-returns-in-Some-Integer
put_form-returns-in-Some-Integer t c =
    let v = c.args.shown.now in
    subst (λ ps. Fills v c.args.out.now c.args.cells.now c.put_next.new.out c.put_next.result.now ps)
    (sym (cell_form v.symbols.now.checked.kinds c.args.kind kind.Integer (λ known. refl)
    (sym c.in-Some-Integer.ensures ∙ ap Some c.in-Some-Integer.field-0-is))) c.put_next.ensures

pub put_form-returns-in-Some-Boolean : goal.put_form-returns-in-Some-Boolean
put_form-returns-in-Some-Boolean t c =
    let v = c.args.shown.now in
    let put = c.put_next-in-Some-Boolean in
    subst (λ ps. Fills v c.args.out.now c.args.cells.now put.new.out put.result.now ps)
    (sym (cell_form v.symbols.now.checked.kinds c.args.kind kind.Boolean (λ known. refl)
    (sym c.in-Some-Boolean.ensures ∙ ap Some c.in-Some-Boolean.field-0-is))) put.ensures

pub put_form-returns-in-Some-Char : goal.put_form-returns-in-Some-Char
put_form-returns-in-Some-Char t c =
    let v = c.args.shown.now in
    let put = c.put_next-in-Some-Char in
    subst (λ ps. Fills v c.args.out.now c.args.cells.now put.new.out put.result.now ps)
    (sym (cell_form v.symbols.now.checked.kinds c.args.kind kind.Char (λ known. refl)
    (sym c.in-Some-Char.ensures ∙ ap Some c.in-Some-Char.field-0-is))) put.ensures

pub put_form-returns-in-Some-Enumeration : goal.put_form-returns-in-Some-Enumeration
put_form-returns-in-Some-Enumeration t c =
    let v = c.args.shown.now in
    let put = c.put_next-in-Some-Enumeration in
    subst (λ ps. Fills v c.args.out.now c.args.cells.now put.new.out put.result.now ps)
    (sym (cell_form v.symbols.now.checked.kinds c.args.kind (kind.Enumeration c.in-Some-Enumeration.field-0-0)
    (λ known. refl) (sym c.in-Some-Enumeration.ensures ∙ ap Some c.in-Some-Enumeration.field-0-is))) put.ensures

pub put_form-returns-in-Some-Channel : goal.put_form-returns-in-Some-Channel
put_form-returns-in-Some-Channel t c =
    let v = c.args.shown.now in
    let put = c.put_next-in-Some-Channel in
    subst (λ ps. Fills v c.args.out.now c.args.cells.now put.new.out put.result.now ps)
    (sym (cell_form v.symbols.now.checked.kinds c.args.kind (kind.Channel c.in-Some-Channel.field-0-0) (λ known. refl)
    (sym c.in-Some-Channel.ensures ∙ ap Some c.in-Some-Channel.field-0-is))) put.ensures
