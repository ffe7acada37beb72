use Rattle.std.proofs.Common.{◌≡◌, ◌+◌, ◌∙◌, sym, ap, ℕ, arith, Some}
use Rattle.std.specs.HashMap.{get_by_text}
use Rattle.std.proofs.lemmas.Option.{none-some, same_Some}
use Rattle.sp_journal.specs.Splits.{last_split}
use Rattle.sp_journal.proofs.ReaderLaws.{Parts, parts, root_only, laws}
use Rattle.sp_journal.proofs.reader.Reader.process.Goals as goal

pub returns-in_err-first-in-Some : goal.returns-in_err-first-in-Some
returns-in_err-first-in-Some c = λ q l e.
    let r = c.args.self.now in
    let p : Parts r q c.in-Some.family.now c.in-Some.child.now =
    parts r c.requires q l c.in-Some.family.now c.in-Some.child.now
    (ap (last_split 46) (sym e) ∙ sym c.in-Some.ensures) in
    absurd (none-some p.first (c.in_err-first-in-Some.ensures ∙ c.get.ensures.value
    ∙ ap (get_by_text r.families) (c.text_of.ensures p.ascii) ∙ p.found))

pub returns-in_err-child-in-Some : goal.returns-in_err-child-in-Some
returns-in_err-child-in-Some c = λ q l e.
    let r = c.args.self.now in
    let p : Parts r q c.in-Some.family.now c.in-Some.child.now =
    parts r c.requires q l c.in-Some.family.now c.in-Some.child.now
    (ap (last_split 46) (sym e) ∙ sym c.in-Some.ensures) in
    absurd (none-some p.child (c.in_err-child-in-Some.ensures p.child p.small p.number))

pub returns-in-None : goal.returns-in-None
returns-in-None c = λ q l e.
    let r = c.args.self.now in
    ap (λ (x : ℕ). Some x) (root_only r c.requires q l (ap (last_split 46) (sym e) ∙ sym c.in-None.ensures))

pub returns-in_ok-child-in-Some : goal.returns-in_ok-child-in-Some
returns-in_ok-child-in-Some c = λ q l e.
    let r = c.args.self.now in
    let p : Parts r q c.in-Some.family.now c.in-Some.child.now =
    parts r c.requires q l c.in-Some.family.now c.in-Some.child.now
    (ap (last_split 46) (sym e) ∙ sym c.in-Some.ensures) in
    let first : c.in_ok-first-in-Some.first ≡ p.first =
    same_Some _ _ (c.in_ok-first-in-Some.ensures ∙ c.get.ensures.value
    ∙ ap (get_by_text r.families) (c.text_of.ensures p.ascii) ∙ p.found) in
    let child : c.in_ok-child-in-Some.child ≡ p.child =
    same_Some _ _ (c.in_ok-child-in-Some.ensures p.child p.small p.number) in
    let sum = p.sum in
    let few = (laws r c.requires).few in
    let is : c.in_ok-first-in-Some.first + c.in_ok-child-in-Some.child ≡ q = omega arith in
    c.numbered.ensures q is (omega arith)
