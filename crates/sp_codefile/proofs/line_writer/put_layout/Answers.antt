use Rattle.std.proofs.Common.{◌≡◌, ◌++◌, List, ℕ, codes, refl, subst}
use Rattle.std.specs.List.{flat_map}
use Rattle.sp_code.specs.Listing.{number_text}
use Rattle.sp_code.specs.declared.code.Formal.{Formal}
use Rattle.sp_codefile.specs.CodeText.{parent_text, answer_text, formal_text}
use Rattle.sp_codefile.proofs.TextLaws.{regrouped_line}
use Rattle.sp_base.proofs.Additions.{joined}
use Rattle.sp_codefile.proofs.line_writer.put_layout.Goals as goal

pub returns-clause-text : goal.returns-clause-text
returns-clause-text c = λ kept.
    let formals = c.put_formals.ensures.text kept in
    let third = c.extend-4.ensures formals.0 in
    let variables = c.put_numbers-2.ensures.text third.0 in
    let second = c.extend-3.ensures variables.0 in
    let sizes = c.put_numbers.ensures.text second.0 in
    let first = c.extend-2.ensures sizes.0 in
    let answer = c.put_answer.ensures first.0 in
    let parent = c.put_parent.ensures.text answer.0 in
    let entry = c.put_number-2.ensures.text parent.0 in
    let block = c.put_number.ensures.text entry.0 in
    let word = c.extend.ensures block.0 in
    let o = c.args.out.now.items.items in
    let l = c.args.layout.now in
    let s : c.put_numbers.new.out.items.items ≡ c.extend-2.new.self.items.items ++ flat_map number_text l.sizes =
    subst (λ (xs : List ℕ). c.put_numbers.new.out.items.items ≡ c.extend-2.new.self.items.items
    ++ flat_map number_text xs) c.items.ensures sizes.1 in
    let v : c.put_numbers-2.new.out.items.items ≡ c.extend-3.new.self.items.items ++ flat_map number_text l.variables =
    subst (λ (xs : List ℕ). c.put_numbers-2.new.out.items.items ≡ c.extend-3.new.self.items.items
    ++ flat_map number_text xs) c.items-2.ensures variables.1 in
    let f : c.put_formals.new.out.items.items ≡ c.extend-4.new.self.items.items ++ flat_map formal_text l.formals =
    subst (λ (xs : List Formal). c.put_formals.new.out.items.items ≡ c.extend-4.new.self.items.items
    ++ flat_map formal_text xs) c.items-3.ensures formals.1 in (
      word.0,
      joined o _ _ (joined o _ _ (joined o _ _ (joined o _ _ (joined o _ _ (joined o _ _ (joined o _ _ (joined o _ _
          (joined o _ _ (joined o _ _ word.1 block.1 refl) entry.1 refl) parent.1 refl) answer.1 refl) first.1 refl)
          s refl) second.1 refl) v refl) third.1 refl) f
          (regrouped_line (codes "layout") (number_text l.block) (number_text l.entry) (parent_text l.parent)
          (answer_text l.answer) (codes " sizes") (flat_map number_text l.sizes) (codes " variables")
          (flat_map number_text l.variables) (codes " formals") (flat_map formal_text l.formals)),
    )
