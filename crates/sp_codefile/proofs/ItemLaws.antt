-- Code as a row of items: its text and its sizes, item by item.
use Rattle.std.proofs.Common.{◌≡◌, ℕ, suc, ◌+◌, ◌-◌, ◌<◌, List, [], ◌∷◌, ◌++◌, length, refl, sym, ap, ◌∙◌, arith}
use Rattle.std.proofs.Common.{append_assoc, append-nil, codes, All}
use Rattle.std.specs.List.{flat_map}
use Rattle.std.proofs.lemmas.Grind.{flat_map-append}
use Rattle.std.proofs.lemmas.List.Elements.{All-push, All-head, All-tail, All-cons, All-nil}
use Rattle.std.proofs.lemmas.List.{length_push}
use Rattle.sp_code.specs.declared.code.ChildTable.{ChildTable}
use Rattle.sp_code.specs.declared.code.ForkTable.{ForkTable}
use Rattle.sp_code.specs.declared.code.Layout.{Layout}
use Rattle.sp_code.specs.declared.code.Parts.{Parts}
use Rattle.sp_code.specs.declared.instr.Instr.{Instr}
use Rattle.sp_code.specs.Listing.{numbered_texts, instr_line}
use Rattle.sp_code.specs.Sizes.{HasNumbers, HasSmallSizes, HasChild}
use Rattle.sp_codefile.specs.declared.item.Item.{Item}
use Rattle.sp_codefile.specs.declared.item.Item.TheVariants as item
use Rattle.sp_codefile.specs.CodeText.{line, layout_text, text_text, child_of, table_text, code_text, LayoutFits}
use Rattle.sp_codefile.specs.CodeText.{ChildFits, TableFits, InstrFits, IsByte, IsCode}
use Rattle.sp_codefile.specs.Items.{last_children, with_child, item_text, CanFollow, after_item}
use Rattle.sp_codefile.proofs.TextLaws.{instr_is_line}

numbered_last : {X : Type 0} (text : ℕ → X → List ℕ) (n : ℕ) (xs : List X) (x : X)
    → numbered_texts text n (xs ++ x ∷ []) ≡ numbered_texts text n xs ++ text (n + length xs) x
numbered_last text n [] x = let e : n ≡ n + 0 = omega arith in append-nil (text n x) ∙ ap (λ (k : ℕ). text k x) e
numbered_last text n (y ∷ ys) x =
    let e : suc n + length ys ≡ n + suc (length ys) = omega arith in
    ap (λ (z : List ℕ). text n y ++ z) (numbered_last text (suc n) ys x)
    ∙ sym (append_assoc (text n y) (numbered_texts text (suc n) ys) (text (suc n + length ys) x))
    ∙ ap (λ (k : ℕ). (text n y ++ numbered_texts text (suc n) ys) ++ text k x) e

-- the same from 0 on
from_0 : {X : Type 0} (text : ℕ → X → List ℕ) (xs : List X) (x : X)
    → numbered_texts text 0 (xs ++ x ∷ []) ≡ numbered_texts text 0 xs ++ text (length xs) x
from_0 text xs x = let e : 0 + length xs ≡ length xs = omega arith in numbered_last text 0 xs x
    ∙ ap (λ (k : ℕ). numbered_texts text 0 xs ++ text k x) e

flat_last : {X : Type 0} (text : X → List ℕ) (xs : List X) (x : X) → flat_map text (xs ++ x ∷ []) ≡ flat_map text xs
    ++ text x
flat_last text xs x = flat_map-append text xs (x ∷ [])
    ∙ ap (λ (z : List ℕ). flat_map text xs ++ z) (append-nil (text x))

child_last : (n : ℕ) (ts : List ForkTable) (c : ChildTable) → 0 < length ts
    → numbered_texts table_text n (with_child ts c) ≡ numbered_texts table_text n ts
    ++ child_of (n + (length ts - 1)) (last_children ts) c
child_last n [] c l = absurd (omega arith)
child_last n (t ∷ []) c l =
    let e : n ≡ n + (1 - 1) = omega arith in
    append-nil (numbered_texts (child_of n) 0 (t.children ++ c ∷ [])) ∙ from_0 (child_of n) t.children c
    ∙ (λ j. sym (append-nil (table_text n t)) j ++ child_of (e j) (length t.children) c)
child_last n (t ∷ (u ∷ ts)) c l =
    let e : suc n + (length (u ∷ ts) - 1) ≡ n + (length (t ∷ (u ∷ ts)) - 1) = omega arith in
    ap (λ (z : List ℕ). table_text n t ++ z) (child_last (suc n) (u ∷ ts) c (omega arith))
    ∙ sym (append_assoc (table_text n t) (numbered_texts table_text (suc n) (u ∷ ts))
    (child_of (suc n + (length (u ∷ ts) - 1)) (last_children (u ∷ ts)) c))
    ∙ ap (λ (k : ℕ). (table_text n t ++ numbered_texts table_text (suc n) (u ∷ ts))
    ++ child_of k (last_children (u ∷ ts)) c) e

-- where what stands behind is empty, more at the end of a part is more at the end of the whole
with_three : (h l t i f n : List ℕ) → t ≡ [] → i ≡ [] → f ≡ [] → h ++ (l ++ n) ++ t ++ i ++ f ≡ (h ++ l ++ t ++ i ++ f)
    ++ n
with_three h l t i f n a b c = rw a (rw b (rw c (append-nil (h ++ (l ++ n) ++ [] ++ [])
    ∙ append-nil (h ++ (l ++ n) ++ []) ∙ append-nil (h ++ (l ++ n)) ∙ sym (append_assoc h l n)
    ∙ ap (λ (z : List ℕ). z
    ++ n) (sym (append-nil (h ++ l ++ [] ++ []) ∙ append-nil (h ++ l ++ []) ∙ append-nil (h ++ l))))))

with_two : (h l t i f n : List ℕ) → i ≡ [] → f ≡ [] → h ++ l ++ (t ++ n) ++ i ++ f ≡ (h ++ l ++ t ++ i ++ f) ++ n
with_two h l t i f n b c = rw b (rw c (append-nil (h ++ l ++ (t ++ n) ++ []) ∙ append-nil (h ++ l ++ (t ++ n))
    ∙ sym (append_assoc (h ++ l) t n)
    ∙ ap (λ (z : List ℕ). z ++ n) (sym (append-nil (h ++ l ++ t ++ []) ∙ append-nil (h ++ l ++ t)))))

with_one : (h l t i f n : List ℕ) → f ≡ [] → h ++ l ++ t ++ (i ++ n) ++ f ≡ (h ++ l ++ t ++ i ++ f) ++ n
with_one h l t i f n c = rw c (append-nil (h ++ l ++ t ++ (i ++ n)) ∙ sym (append_assoc (h ++ l ++ t) i n)
    ∙ ap (λ (z : List ℕ). z ++ n) (sym (append-nil (h ++ l ++ t ++ i))))

abbrev head : List ℕ
head = codes "superpascal code 1\n"

abbrev layouts_text : List Layout → List ℕ
layouts_text ls = flat_map (λ l. line (layout_text l)) ls

abbrev texts_text : List (List ℕ) → List ℕ
texts_text ts = flat_map (λ t. line (text_text t)) ts

abbrev instrs_text : List Instr → List ℕ
instrs_text xs = numbered_texts instr_line 0 xs

abbrev forks_text : List ForkTable → List ℕ
forks_text fs = numbered_texts table_text 0 fs

-- one more item is one more line
pub text_step : (p : Parts) (x : Item) → CanFollow p x → code_text (after_item p x) ≡ code_text p
    ++ line (item_text p x)
text_step p (item.Layout l) ((no_texts, no_instrs, no_forks, _, _), _) =
    ap (λ (z : List ℕ). head ++ z ++ texts_text p.texts ++ instrs_text p.instrs
    ++ forks_text p.forks) (flat_last (λ m. line (layout_text m)) p.layouts l)
    ∙ with_three head (layouts_text p.layouts) (texts_text p.texts) (instrs_text p.instrs) (forks_text p.forks)
    (line (layout_text l)) (ap texts_text no_texts) (ap instrs_text no_instrs)
    (ap forks_text no_forks)
text_step p (item.Text t) ((no_instrs, no_forks, _), _) =
    ap (λ (z : List ℕ). head ++ layouts_text p.layouts ++ z ++ instrs_text p.instrs
    ++ forks_text p.forks) (flat_last (λ m. line (text_text m)) p.texts t)
    ∙ with_two head (layouts_text p.layouts) (texts_text p.texts) (instrs_text p.instrs) (forks_text p.forks)
    (line (text_text t)) (ap instrs_text no_instrs) (ap forks_text no_forks)
text_step p (item.Instr x) ((no_forks, _), _) =
    ap (λ (z : List ℕ). head ++ layouts_text p.layouts ++ texts_text p.texts ++ z ++ forks_text p.forks)
    (from_0 instr_line p.instrs x
    ∙ ap (λ (z : List ℕ). instrs_text p.instrs ++ z) (sym (instr_is_line (length p.instrs) x)))
    ∙ with_one head (layouts_text p.layouts) (texts_text p.texts) (instrs_text p.instrs) (forks_text p.forks)
    (line (item_text p (item.Instr x))) (ap forks_text no_forks)
text_step p (item.Table c) h =
    let front = head ++ layouts_text p.layouts ++ texts_text p.texts ++ instrs_text p.instrs in
    ap (λ (z : List ℕ). front ++ z)
    (from_0 table_text p.forks (record { children = c ∷ [] })
    ∙ ap (λ (z : List ℕ). forks_text p.forks ++ z) (append-nil (child_of (length p.forks) 0 c)))
    ∙ sym (append_assoc front (forks_text p.forks) (child_of (length p.forks) 0 c))
text_step p (item.Child c) ((some, _), _) =
    let front = head ++ layouts_text p.layouts ++ texts_text p.texts ++ instrs_text p.instrs in
    let e : 0 + (length p.forks - 1) ≡ length p.forks - 1 = omega arith in
    ap (λ (z : List ℕ). front ++ z)
    (child_last 0 p.forks c some ∙ ap (λ (k : ℕ). forks_text p.forks ++ child_of k (last_children p.forks) c) e)
    ∙ sym (append_assoc front (forks_text p.forks) (child_of (length p.forks - 1) (last_children p.forks) c))

-- all tables hold what each does, and the last one with one more child
with_child_all : (P : ForkTable → Type 0) (ts : List ForkTable) (c : ChildTable) → All P ts
    → ((t : ForkTable) → length t.children ≡ last_children ts → P t → P (record { children = t.children ++ c ∷ [] }))
    → All P (with_child ts c)
with_child_all P [] c a f = All-nil P
with_child_all P (t ∷ []) c a f = All-cons P (record {
  children = t.children
      ++ c ∷ [];
}) [] (f t refl (All-head P t [] a)) (All-nil P)
with_child_all P (t ∷ (u ∷ ts)) c a f = All-cons P t (with_child (u ∷ ts) c) (All-head P t (u ∷ ts) a)
    (with_child_all P (u ∷ ts) c (All-tail P t (u ∷ ts) a) f)

with_child_length : (ts : List ForkTable) (c : ChildTable) → length (with_child ts c) ≡ length ts
with_child_length [] c = refl
with_child_length (t ∷ []) c = refl
with_child_length (t ∷ (u ∷ ts)) c = ap suc (with_child_length (u ∷ ts) c)

small_sizes : (l : Layout) → LayoutFits l → HasSmallSizes l
small_sizes l f k d b = let a = f.sizes k d b in omega arith

-- one more item keeps it code
pub code_step : (p : Parts) (x : Item) → IsCode p → CanFollow p x → IsCode (after_item p x)
code_step p (item.Layout l) i ((_, _, _, few, has_numbers), fits) = record {
  sizes = record {
    instrs = i.sizes.instrs;
    forks = i.sizes.forks;
    texts = i.sizes.texts;
    children = i.sizes.children;
    layouts = omega (arith, few, length_push p.layouts l);
    frames = All-push HasNumbers p.layouts l i.sizes.frames has_numbers;
    sizes = All-push HasSmallSizes p.layouts l i.sizes.sizes (small_sizes l fits);
  };
  layouts = All-push LayoutFits p.layouts l i.layouts fits;
  texts = i.texts;
  instrs = i.instrs;
  forks = i.forks;
}
code_step p (item.Text t) i ((_, _, few), fits) = record {
  sizes = record {
    instrs = i.sizes.instrs;
    layouts = i.sizes.layouts;
    forks = i.sizes.forks;
    frames = i.sizes.frames;
    sizes = i.sizes.sizes;
    children = i.sizes.children;
    texts = omega (arith, few, length_push p.texts t);
  };
  texts = All-push (All IsByte) p.texts t i.texts fits;
  layouts = i.layouts;
  instrs = i.instrs;
  forks = i.forks;
}
code_step p (item.Instr x) i ((_, few), fits) = record {
  sizes = record {
    layouts = i.sizes.layouts;
    forks = i.sizes.forks;
    texts = i.sizes.texts;
    frames = i.sizes.frames;
    sizes = i.sizes.sizes;
    children = i.sizes.children;
    instrs = omega (arith, few, length_push p.instrs x);
  };
  instrs = All-push InstrFits p.instrs x i.instrs fits;
  layouts = i.layouts;
  texts = i.texts;
  forks = i.forks;
}
code_step p (item.Table c) i h =
    let t : ForkTable = record { children = c ∷ [] } in record {
      sizes = record {
        instrs = i.sizes.instrs;
        layouts = i.sizes.layouts;
        texts = i.sizes.texts;
        frames = i.sizes.frames;
        sizes = i.sizes.sizes;
        forks = let a = h.0 in omega (arith, length_push p.forks t);
        children = All-push HasChild p.forks t i.sizes.children (omega arith);
      };
      forks = All-push TableFits p.forks t i.forks
          (record { count = omega arith; children = All-cons ChildFits c [] h.1 (All-nil ChildFits) });
      layouts = i.layouts;
      texts = i.texts;
      instrs = i.instrs;
    }
code_step p (item.Child c) i ((_, few), fits) = record {
  sizes = record {
    instrs = i.sizes.instrs;
    layouts = i.sizes.layouts;
    texts = i.sizes.texts;
    frames = i.sizes.frames;
    sizes = i.sizes.sizes;
    forks = let a = i.sizes.forks in omega (arith, with_child_length p.forks c);
    children = with_child_all HasChild p.forks c i.sizes.children (λ t e a. omega (arith, length_push t.children c));
  };
  forks = with_child_all TableFits p.forks c i.forks
      (λ t e a. record {
        count = omega (arith, few, length_push t.children c);
        children = All-push ChildFits t.children c a.children fits;
      });
  layouts = i.layouts;
  texts = i.texts;
  instrs = i.instrs;
}
