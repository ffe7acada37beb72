-- Every code is a row of items, each of which can follow those before it.
use Rattle.std.proofs.Common.{◌≡◌, ℕ, zero, suc, ◌+◌, ◌-◌, ◌^◌, ◌<◌, ◌≤◌, Option, Some, None, slice_get, List, [], ◌∷◌}
use Rattle.std.proofs.Common.{◌++◌, length, map, refl, sym, ap, ◌∙◌, subst, arith, append_assoc, append-nil}
use Rattle.std.proofs.Common.{length-append, All}
use Rattle.std.proofs.lemmas.List.Elements.{All-head, All-tail}
use Rattle.sp_code.specs.declared.code.ChildTable.{ChildTable}
use Rattle.sp_code.specs.declared.code.ForkTable.{ForkTable}
use Rattle.sp_code.specs.declared.code.Layout.{Layout}
use Rattle.sp_code.specs.declared.code.Parts.{Parts}
use Rattle.sp_code.specs.declared.instr.Instr.{Instr}
use Rattle.sp_code.specs.Sizes.{HasNumbers, HasChild}
use Rattle.sp_codefile.specs.declared.item.Item.{Item}
use Rattle.sp_codefile.specs.declared.item.Item.TheVariants as item
use Rattle.sp_codefile.specs.CodeText.{line, code_text, LayoutFits, ChildFits, TableFits, InstrFits, IsByte, IsCode}
use Rattle.sp_codefile.specs.Items.{last_children, with_child, item_text, CanFollow, after_item}
use Rattle.sp_codefile.proofs.ItemLaws.{text_step}

-- these items, each of which can follow, lead from some parts to others
abbrev pub ItemsLead : Parts → List Item → Parts → Type 0
ItemsLead p [] q = p ≡ q
ItemsLead p (x ∷ xs) q = CanFollow p x × ItemsLead (after_item p x) xs q

pub leads_join : (p : Parts) (xs ys : List Item) (q r : Parts) → ItemsLead p xs q → ItemsLead q ys r
    → ItemsLead p (xs ++ ys) r
leads_join p [] ys q r e h = subst (λ (s : Parts). ItemsLead s ys r) (sym e) h
leads_join p (x ∷ xs) ys q r e h = (e.0, leads_join (after_item p x) xs ys q r e.1 h)

abbrev parts_of : List Layout → List (List ℕ) → List Instr → List ForkTable → Parts
parts_of ls ts xs fs = record { instrs = xs; layouts = ls; forks = fs; texts = ts }

-- the parts of a code without anything
abbrev pub no_parts : Parts
no_parts = parts_of [] [] [] []

layout_items : (done more : List Layout) → length done + length more ≤ 1048576 → All HasNumbers more
    → All LayoutFits more → ItemsLead (parts_of done [] [] []) (map item.Layout more) (parts_of (done ++ more) [] [] [])
layout_items done [] l n f = ap (λ (ls : List Layout). parts_of ls [] [] []) (sym (append-nil done))
layout_items done (x ∷ more) l n f = (
  ((refl, refl, refl, omega arith, All-head HasNumbers x more n), All-head LayoutFits x more f),
  subst (λ (ls : List Layout). ItemsLead (parts_of (done
      ++ x ∷ []) [] [] []) (map item.Layout more) (parts_of ls [] [] [])) (append_assoc done (x ∷ []) more)
      (layout_items (done ++ x ∷ []) more (omega (arith, length-append done (x ∷ []))) (All-tail HasNumbers x more n)
      (All-tail LayoutFits x more f)),
)

text_items : (ls : List Layout) (done more : List (List ℕ)) → length done + length more ≤ 1048576
    → All (All IsByte) more → ItemsLead (parts_of ls done [] []) (map item.Text more) (parts_of ls (done ++ more) [] [])
text_items ls done [] l f = ap (λ (ts : List (List ℕ)). parts_of ls ts [] []) (sym (append-nil done))
text_items ls done (x ∷ more) l f = (
  ((refl, refl, omega arith), All-head (All IsByte) x more f),
  subst (λ (ts : List (List ℕ)). ItemsLead (parts_of ls (done
      ++ x ∷ []) [] []) (map item.Text more) (parts_of ls ts [] [])) (append_assoc done (x ∷ []) more)
      (text_items ls (done ++ x ∷ []) more (omega (arith, length-append done (x ∷ [])))
      (All-tail (All IsByte) x more f)),
)

instr_items : (ls : List Layout) (ts : List (List ℕ)) (done more : List Instr) → length done + length more ≤ 1048576
    → All InstrFits more → ItemsLead (parts_of ls ts done []) (map item.Instr more) (parts_of ls ts (done ++ more) [])
instr_items ls ts done [] l f = ap (λ (xs : List Instr). parts_of ls ts xs []) (sym (append-nil done))
instr_items ls ts done (x ∷ more) l f = (
  ((refl, omega arith), All-head InstrFits x more f),
  subst (λ (xs : List Instr). ItemsLead (parts_of ls ts (done
      ++ x ∷ []) []) (map item.Instr more) (parts_of ls ts xs [])) (append_assoc done (x ∷ []) more)
      (instr_items ls ts (done ++ x ∷ []) more (omega (arith, length-append done (x ∷ [])))
      (All-tail InstrFits x more f)),
)

module _ (ls : List Layout) (ts : List (List ℕ)) (xs : List Instr) where
  abbrev with_forks : List ForkTable → Parts
  with_forks fs = parts_of ls ts xs fs

  abbrev table_of : List ChildTable → ForkTable
  table_of cs = record { children = cs }

  pub last_of : (done : List ForkTable) (t : ForkTable) → last_children (done ++ t ∷ []) ≡ length t.children
  last_of [] t = refl
  last_of (d ∷ []) t = refl
  last_of (d ∷ (e ∷ done)) t = last_of (e ∷ done) t

  pub child_of_last : (done : List ForkTable) (t : ForkTable) (c : ChildTable) → with_child (done ++ t ∷ []) c ≡ done
      ++ table_of (t.children ++ c ∷ []) ∷ []
  child_of_last [] t c = refl
  child_of_last (d ∷ []) t c = refl
  child_of_last (d ∷ (e ∷ done)) t c = ap (λ (fs : List ForkTable). d ∷ fs) (child_of_last (e ∷ done) t c)

  child_items : (done : List ForkTable) (front more : List ChildTable) → length front + length more < 2 ^ 64
      → All ChildFits more → ItemsLead (with_forks (done ++ table_of front ∷ [])) (map item.Child more)
      (with_forks (done
      ++ table_of (front ++ more) ∷ []))
  child_items done front [] l f = ap (λ (cs : List ChildTable). with_forks (done
      ++ table_of cs ∷ [])) (sym (append-nil front))
  child_items done front (c ∷ more) l f = (
    (
      (omega (arith, length-append done (table_of front ∷ [])), omega (arith, last_of done (table_of front))),
      All-head ChildFits c more f,
    ),
    subst (λ (fs : List ForkTable). ItemsLead (with_forks fs) (map item.Child more) (with_forks (done
        ++ table_of (front ++ c ∷ more) ∷ []))) (sym (child_of_last done (table_of front) c))
        (subst (λ (cs : List ChildTable). ItemsLead (with_forks (done
        ++ table_of (front ++ c ∷ []) ∷ [])) (map item.Child more) (with_forks (done
        ++ table_of cs ∷ []))) (append_assoc front (c ∷ []) more)
        (child_items done (front ++ c ∷ []) more (omega (arith, length-append front (c ∷ [])))
        (All-tail ChildFits c more f))),
  )

  -- the items of one table
  abbrev table_items : List ChildTable → List Item
  table_items [] = []
  table_items (c ∷ cs) = item.Table c ∷ map item.Child cs

  abbrev fork_items : List ForkTable → List Item
  fork_items [] = []
  fork_items (t ∷ fs) = table_items t.children ++ fork_items fs

  one_table : (done : List ForkTable) (cs : List ChildTable) → length done < 1048576 → 1 ≤ length cs
      → length cs < 2 ^ 64 → All ChildFits cs
      → ItemsLead (with_forks done) (table_items cs) (with_forks (done ++ table_of cs ∷ []))
  one_table done [] l some few f = absurd (omega arith)
  one_table done (c ∷ cs) l some few f =
      ((l, All-head ChildFits c cs f), child_items done (c ∷ []) cs (omega arith) (All-tail ChildFits c cs f))

  all_tables : (done more : List ForkTable) → length done + length more ≤ 1048576 → All HasChild more
      → All TableFits more → ItemsLead (with_forks done) (fork_items more) (with_forks (done ++ more))
  all_tables done [] l h f = ap with_forks (sym (append-nil done))
  all_tables done (t ∷ more) l h f =
      let fits = All-head TableFits t more f in
      leads_join (with_forks done) (table_items t.children) (fork_items more) (with_forks (done
      ++ t ∷ [])) (with_forks (done ++ t ∷ more))
      (one_table done t.children (omega arith) (All-head HasChild t more h) fits.count fits.children)
      (subst (λ (fs : List ForkTable). ItemsLead (with_forks (done
      ++ t ∷ [])) (fork_items more) (with_forks fs)) (append_assoc done (t ∷ []) more)
      (all_tables (done ++ t ∷ []) more (omega (arith, length-append done (t ∷ []))) (All-tail HasChild t more h)
      (All-tail TableFits t more f)))

-- every code is led to from no parts
pub from_nothing : (p : Parts) → IsCode p → (xs : List Item) × ItemsLead no_parts xs p
from_nothing p c =
    let a = layout_items [] p.layouts (let l = c.sizes.layouts in omega arith) c.sizes.frames c.layouts in
    let b = text_items p.layouts [] p.texts (let l = c.sizes.texts in omega arith) c.texts in
    let d = instr_items p.layouts p.texts [] p.instrs (let l = c.sizes.instrs in omega arith) c.instrs in
    let e = all_tables p.layouts p.texts p.instrs [] p.forks
    (let l = c.sizes.forks in omega arith) c.sizes.children c.forks in
    let two = map item.Layout p.layouts ++ map item.Text p.texts in
    let three = two ++ map item.Instr p.instrs in
    let ab = leads_join no_parts (map item.Layout p.layouts) (map item.Text p.texts) (parts_of p.layouts [] [] [])
    (parts_of p.layouts p.texts [] []) a b in
    let abd = leads_join no_parts two (map item.Instr p.instrs) (parts_of p.layouts p.texts [] [])
    (parts_of p.layouts p.texts p.instrs []) ab d in (
      three ++ fork_items p.layouts p.texts p.instrs p.forks,
      leads_join no_parts three
          (fork_items p.layouts p.texts p.instrs p.forks) (parts_of p.layouts p.texts p.instrs []) p abd e,
    )

-- the lines of these items
abbrev pub items_text : Parts → List Item → List ℕ
items_text p [] = []
items_text p (x ∷ xs) = line (item_text p x) ++ items_text (after_item p x) xs

pub text_along : (p : Parts) (xs : List Item) (q : Parts) → ItemsLead p xs q → code_text q ≡ code_text p
    ++ items_text p xs
text_along p [] q e = ap code_text (sym e) ∙ sym (append-nil (code_text p))
text_along p (x ∷ xs) q h =
    text_along (after_item p x) xs q h.1 ∙ ap (λ (z : List ℕ). z ++ items_text (after_item p x) xs) (text_step p x h.0)
    ∙ append_assoc (code_text p) (line (item_text p x)) (items_text (after_item p x) xs)

-- how many children the last table has, by its place
pub last_by_place : (fs : List ForkTable) (i : ℕ) (t : ForkTable) → i ≡ length fs - 1 → Some t ≡ slice_get fs i
    → length t.children ≡ last_children fs
last_by_place [] i t l e = absurd (cc e)
last_by_place (f ∷ []) zero t l e = ap counted e
  where
    counted : Option ForkTable → ℕ
    counted None = 0
    counted (Some u) = length u.children
last_by_place (f ∷ []) (suc i) t l e = absurd (omega arith)
last_by_place (f ∷ (g ∷ fs)) zero t l e = absurd (omega arith)
last_by_place (f ∷ (g ∷ fs)) (suc i) t l e = last_by_place (g ∷ fs) i t (omega arith) e

pub none_by_place : (fs : List ForkTable) (i : ℕ) → i ≡ length fs - 1 → None ≡ slice_get fs i → 0 ≡ last_children fs
none_by_place [] i l e = refl
none_by_place (f ∷ []) zero l e = absurd (cc e)
none_by_place (f ∷ []) (suc i) l e = absurd (omega arith)
none_by_place (f ∷ (g ∷ fs)) zero l e = absurd (omega arith)
none_by_place (f ∷ (g ∷ fs)) (suc i) l e = none_by_place (g ∷ fs) i (omega arith) e

pub child_added : (old new : List ForkTable) (t : ForkTable) (c : ChildTable) (cs : List ChildTable) → old ≡ new
    ++ t ∷ [] → cs ≡ t.children ++ c ∷ [] → new ++ record { children = cs } ∷ [] ≡ with_child old c
child_added old new t c cs e f =
    ap (λ (ds : List ChildTable). new ++ record { children = ds } ∷ []) f
    ∙ sym (ap (λ (ts : List ForkTable). with_child ts c) e ∙ child_of_last [] [] [] new t c)
