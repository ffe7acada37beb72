-- The text of the children that have not ended, one after another.
use Rattle.std.proofs.Common.{◌≡◌, ◌∙◌, ◌+◌, ◌-◌, ◌≤◌, ◌++◌, ◌∷◌, [], ℕ, suc, Bool, true, false, not, cond, List}
use Rattle.std.proofs.Common.{filter, codes, sym, ap, arith, append-nil, append_assoc}
use Rattle.std.proofs.lemmas.List.Concat.{flat_map-append}
use Rattle.std.proofs.lemmas.List.Elements.{filter-append}
use Rattle.sp_base.specs.Names.{name_text}
use Rattle.sp_base.specs.declared.name.ProcName.{ProcName}
use Rattle.sp_journal.specs.Births.{Births}
use Rattle.sp_journal.specs.Names.{proc_name}
use Rattle.sp_journal.specs.Queue.{numbers}
use Rattle.sp_journal.proofs.Facts.{numbers_last}
use Rattle.sp_report.specs.Conditions.{Conditions}
use Rattle.sp_report.specs.WaitingText.{children_text, has_ended, unended_children}

module _ (s : Births) (t : Conditions) (first child : ℕ) (some : first ≤ child) where
  left_more : unended_children t first (child + 1 - first) ≡ unended_children t first (child - first)
      ++ cond (not (has_ended (t.of child))) (child ∷ []) []
  left_more =
      let a : child + 1 - first ≡ suc (child - first) = omega arith in
      let b : first + (child - first) ≡ child = omega arith in
      ap (unended_children t first) a
      ∙ ap (filter (λ q. not (has_ended (t.of q))))
      (numbers_last first (child - first) ∙ ap (λ (x : ℕ). numbers first (child - first) ++ x ∷ []) b)
      ∙ filter-append (λ q. not (has_ended (t.of q))) (numbers first (child - first)) (child ∷ [])

  text_more : children_text s (unended_children t first (child + 1 - first))
      ≡ children_text s (unended_children t first (child - first))
      ++ children_text s (cond (not (has_ended (t.of child))) (child ∷ []) [])
  text_more = ap (children_text s) left_more
      ∙ flat_map-append (λ q. codes " " ++ name_text (proc_name (s.name q))) (unended_children t first (child - first))
      (cond (not (has_ended (t.of child))) (child ∷ []) [])

  pub one_left : (before out mid new : List ℕ) (name : ProcName)
      → out ≡ before ++ children_text s (unended_children t first (child - first)) → has_ended (t.of child) ≡ false
      → name ≡ proc_name (s.name child)
      → mid ≡ out ++ codes " " → new ≡ mid ++ name_text name
      → new ≡ before ++ children_text s (unended_children t first (child + 1 - first))
  one_left before out mid new name so_far h n e f =
      f ∙ (λ i. e i ++ name_text (n i)) ∙ append_assoc out (codes " ") (name_text (proc_name (s.name child)))
      ∙ ap (λ (x : List ℕ). x ++ (codes " " ++ name_text (proc_name (s.name child)))) so_far
      ∙ append_assoc before (children_text s (unended_children t first (child - first)))
      (codes " " ++ name_text (proc_name (s.name child)))
      ∙ ap (λ (x : List ℕ). before ++ (children_text s (unended_children t first (child - first)) ++ x))
      (sym (append-nil (codes " " ++ name_text (proc_name (s.name child)))))
      ∙ ap (λ (x : List ℕ). before ++ x) (sym
      (text_more ∙ ap (λ (b : Bool). children_text s (unended_children t first (child - first))
      ++ children_text s (cond (not b) (child ∷ []) [])) h))

  pub none_left : (before out new : List ℕ) → out ≡ before ++ children_text s (unended_children t first (child - first))
      → has_ended (t.of child) ≡ true → new ≡ out
      → new ≡ before ++ children_text s (unended_children t first (child + 1 - first))
  none_left before out new so_far h e =
      e ∙ so_far ∙ ap (λ (x : List ℕ). before ++ x)
      (sym (text_more ∙ ap (λ (b : Bool). children_text s (unended_children t first (child - first))
      ++ children_text s (cond (not b) (child ∷ []) [])) h
      ∙ append-nil (children_text s (unended_children t first (child - first)))))
