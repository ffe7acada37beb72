use Rattle.std.proofs.Common.{◌≡◌, ℕ, suc, ◌∙◌, List, Some, None, refl, sym, ap, subst, arith, codes, rules}
use Rattle.sp_journal.proofs.TextLaws.{parts_first, none_parts}
use Rattle.sp_code.specs.declared.code.Parts.{Parts}
use Rattle.sp_codefile.specs.CodeText.{IsTextOf}
use Rattle.sp_codefile.specs.Items.{item_text, IsNextItem}
use Rattle.sp_codefile.proofs.WordLaws.{not_empty, empty}
use Rattle.sp_codefile.proofs.ReadLaws.{Begun, head, begun_first, bad_first, begun_next}
use Rattle.sp_codefile.proofs.ReadLaws.{bad_line, read_whole, shorter}
use Rattle.sp_codefile.proofs.decoder.decode.Goals as goal

pub returns-in_default : goal.returns-in_default
returns-in_default c = bad_first c.args.bytes.now (λ rest e. none_parts head rest (c.in_default.ensures ∙ e))

pub returns-then-ne : goal.returns-then-ne
returns-then-ne c = bad_first c.args.bytes.now (λ rest e.
    let w : c.in-Some.first.now ≡ codes "superpascal code 1" = parts_first _ _ _ _ (c.in-Some.ensures ∙ e) in
    let x : ⊥ = search rules in
    x)

pub loop-rest-init : goal.loop-rest-init
loop-rest-init c =
    let bytes = c.args.bytes.now in
    let rest = c.in-Some.rest.now in
    let w : c.in-Some.first.now ≡ codes "superpascal code 1" = search rules in
    let e = sym c.in-Some.ensures ∙ ap (λ (z : List ℕ). Some (z, rest)) w in
    let short = shorter bytes head rest (sym e) in (
      1,
      refl,
      subst (λ (q : Parts). Begun bytes 1 q rest)
          (λ j. record {
            instrs = sym c.new.ensures j;
            layouts = sym c.new-2.ensures j;
            forks = sym c.new-3.ensures j;
            texts = sym c.new-4.ensures j;
          }) (begun_first bytes rest e),
      omega arith,
    )

pub returns-in_default-split_first : goal.returns-in_default-split_first
returns-in_default-split_first c =
    let rest = c.loop-rest.rest.now in
    let i = c.loop-rest.invariant in
    bad_line c.args.bytes.now i.0 c.loop-rest.line c.loop-rest.parts rest i.1 i.2
    (not_empty rest c.is_empty.result c.is_empty.ensures c.loop-rest-test.true)
    (λ x more h f. none_parts (item_text c.loop-rest.parts x) more (c.in_default-split_first.ensures ∙ f))

pub returns-in_default-2 : goal.returns-in_default-2
returns-in_default-2 c =
    let rest = c.loop-rest.rest.now in
    let i = c.loop-rest.invariant in
    let none : IsNextItem c.loop-rest.parts c.in-Some-split_first.text.now None = subst
    (IsNextItem c.loop-rest.parts c.in-Some-split_first.text.now) c.in_default-2.is c.in-Ok.ensures in
    bad_line c.args.bytes.now i.0 c.loop-rest.line c.loop-rest.parts rest i.1 i.2
    (not_empty rest c.is_empty.result c.is_empty.ensures c.loop-rest-test.true)
    (λ x more h f. none x h (parts_first _ _ _ _ (c.in-Some-split_first.ensures ∙ f)))

pub loop-rest-smaller : goal.loop-rest-smaller
loop-rest-smaller c = let short = shorter c.loop-rest.rest.now c.in-Some-split_first.text.now
    c.in-Some-split_first.behind.now c.in-Some-split_first.ensures in omega arith

pub loop-rest-preserved : goal.loop-rest-preserved
loop-rest-preserved c =
    let bytes = c.args.bytes.now in
    let p = c.loop-rest.parts in
    let rest = c.loop-rest.rest.now in
    let text = c.in-Some-split_first.text.now in
    let behind = c.in-Some-split_first.behind.now in
    let (n, line, begun, fits) = c.loop-rest.invariant in
    let next : IsNextItem p text (Some c.in-Some-2.item) =
    subst (IsNextItem p text) c.in-Some-2.is c.in-Ok.ensures in
    let short = shorter rest text behind c.in-Some-split_first.ensures in (
      suc n,
      omega (arith, line),
      begun_next bytes n p rest text behind c.in-Some-2.item c.add.new.parts begun c.in-Some-split_first.ensures next
          c.in-Ok-add.ensures,
      omega (arith, short, fits),
    )

pub returns : goal.returns
returns c =
    let bytes = c.args.bytes.now in
    let rest = c.loop-rest.rest.now in
    let i = c.loop-rest.invariant in
    subst (λ (r : Parts). IsTextOf r bytes × ((q : Parts) → IsTextOf q bytes → q ≡ r)) (sym c.of.ensures)
    (read_whole bytes i.0 c.loop-rest.parts rest i.2
    (empty rest c.is_empty.result c.is_empty.ensures c.loop-rest-test.false))
