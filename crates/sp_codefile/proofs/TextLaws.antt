-- Laws of the text of code as it is written, item by item.
use Rattle.std.proofs.Common.{◌≡◌, ℕ, suc, ◌+◌, ◌-◌, ◌<◌, ◌≤◌, List, [], ◌∷◌, ◌++◌, length, take, get_or, refl, sym, ap}
use Rattle.std.proofs.Common.{◌∙◌, arith, append_assoc, append-nil, length-append, codes, decimal, All, subst}
use Rattle.sp_code.specs.declared.instr.Instr.{Instr}
use Rattle.std.proofs.lemmas.List.{take_all}
use Rattle.std.proofs.lemmas.List.Elements.{All-more}
use Rattle.std.specs.List.{flat_map}
use Rattle.std.proofs.Math.Seq.{take-suc, take-append_seam}
use Rattle.std.proofs.lemmas.Grind.{flat_map-append}
use Rattle.sp_code.specs.declared.code.ChildTable.{ChildTable}
use Rattle.sp_code.specs.Listing.{number_text, numbered_texts, child_line, instr_line, instr_text}
use Rattle.sp_codefile.specs.CodeText.{body, line, index_text, child_text}

-- the text of one item more
pub text_more : {X : Type 0} (text : X → List ℕ) (xs : List X) (i : ℕ) (d : X) (old out new : List ℕ) → i < length xs
    → out ≡ old ++ flat_map text (take i xs) → new ≡ out ++ text (get_or xs i d) → new ≡ old
    ++ flat_map text (take (i + 1) xs)
text_more text xs i d old out new l e f =
    let s : suc i ≡ i + 1 = omega arith in
    let one : flat_map text (get_or xs i d ∷ []) ≡ text (get_or xs i d) = append-nil (text (get_or xs i d)) in
    let more : flat_map text (take (i + 1) xs) ≡ flat_map text (take i xs) ++ text (get_or xs i d) =
    ap (λ (j : ℕ). flat_map text (take j xs)) (sym s) ∙ ap (flat_map text) (take-suc xs i d l)
    ∙ flat_map-append text (take i xs) (get_or xs i d ∷ [])
    ∙ ap (λ (y : List ℕ). flat_map text (take i xs) ++ y) one in
    f ∙ ap (λ (y : List ℕ). y ++ text (get_or xs i d)) e
    ∙ append_assoc old (flat_map text (take i xs)) (text (get_or xs i d)) ∙ ap (λ (y : List ℕ). old ++ y) (sym more)

-- a line without its line feed
pub body_of : (text : List ℕ) → body (text ++ 10 ∷ []) ≡ text
body_of text =
    let n : length (text ++ 10 ∷ []) - 1 ≡ length text = omega (arith, length-append text (10 ∷ [])) in
    ap (λ (k : ℕ). take k (text ++ 10 ∷ [])) n ∙ take-append_seam text (10 ∷ [])

-- a child's line in the listing up to its line feed, in two parts
abbrev pub child_entry : ℕ → ℕ → ChildTable → List ℕ
child_entry t k c = codes "table " ++ decimal t ++ codes " child " ++ decimal k ++ codes " entry " ++ decimal c.entry

abbrev pub child_lists : ChildTable → List ℕ
child_lists c = codes " moves" ++ flat_map number_text c.moved ++ codes " shares" ++ flat_map number_text c.shared

regrouped : (e m f s g : List ℕ) → e ++ (m ++ f ++ s ++ g) ≡ e ++ m ++ f ++ s ++ g
regrouped e m f s g = simp append_assoc refl

-- a layout's line, part by part
pub regrouped_line : (a b c d e f g h i j k : List ℕ)
    → (((((((((a ++ b) ++ c) ++ d) ++ e) ++ f) ++ g) ++ h) ++ i) ++ j) ++ k
    ≡ a ++ b ++ c ++ d ++ e ++ f ++ g ++ h ++ i ++ j ++ k
regrouped_line a b c d e f g h i j k = simp append_assoc refl

pub child_body : (t k : ℕ) (c : ChildTable) → body (child_line t k c) ≡ child_entry t k c ++ child_lists c
child_body t k c =
    body_of (child_entry t k c ++ codes " moves" ++ flat_map number_text c.moved ++ codes " shares"
    ++ flat_map number_text c.shared)
    ∙ sym (regrouped (child_entry t k c) (codes " moves") (flat_map number_text c.moved) (codes " shares")
    (flat_map number_text c.shared))

-- the parts of a child's line put one after another
pub child_put : (t k : ℕ) (c : ChildTable) (old one two new : List ℕ) → one ≡ old ++ child_entry t k c → two ≡ one
    ++ child_lists c → new ≡ two ++ index_text c.index → new ≡ old ++ child_text t k c
child_put t k c old one two new e f g =
    let parts = append_assoc old (child_entry t k c) (child_lists c) in
    g ∙ ap (λ (y : List ℕ). y ++ index_text c.index) (f ∙ ap (λ (y : List ℕ). y ++ child_lists c) e ∙ parts)
    ∙ append_assoc old (child_entry t k c ++ child_lists c) (index_text c.index)
    ∙ ap (λ (y : List ℕ). old ++ (y ++ index_text c.index)) (sym (child_body t k c))

-- one item's line more
pub line_more : {X : Type 0} (text : X → List ℕ) (xs : List X) (i : ℕ) (x : X) (old out mid new : List ℕ)
    → i < length xs → x ≡ get_or xs i x → out ≡ old ++ flat_map (λ y. line (text y)) (take i xs) → mid ≡ out ++ text x
    → new ≡ mid ++ codes "\n" → new ≡ old ++ flat_map (λ y. line (text y)) (take (i + 1) xs)
line_more text xs i x old out mid new l is e f g =
    text_more (λ y. line (text y)) xs i x old out new l e
    (g ∙ ap (λ (y : List ℕ). y ++ codes "\n") f ∙ append_assoc out (text x) (codes "\n")
    ∙ ap (λ (y : _). out ++ line (text y)) is)

pub fits_more : {X : Type 0} (P : X → Type 0) (xs : List X) (i : ℕ) (x : X) → i < length xs → x ≡ get_or xs i x
    → All P (take i xs) → P x → All P (take (i + 1) xs)
fits_more P xs i x l is a p = All-more P xs i x l a (subst P is p)

-- the line of a numbered item
pub numbered_line : (out mid new text : List ℕ) → mid ≡ out ++ text → new ≡ mid ++ codes "\n" → new ≡ out ++ line text
numbered_line out mid new text f g = g ∙ ap (λ (y : List ℕ). y ++ codes "\n") f ∙ append_assoc out text (codes "\n")

pub instr_is_line : (n : ℕ) (x : Instr) → line (decimal n ++ codes " " ++ instr_text x) ≡ instr_line n x
instr_is_line n x = regroup (decimal n) (codes " ") (instr_text x) (codes "\n")
  where
    regroup : (a b c d : List ℕ) → (a ++ b ++ c) ++ d ≡ a ++ b ++ c ++ d
    regroup a b c d = simp append_assoc refl

-- what stands after a call, and then after another one, if memory was refused in neither
pub both_put : {L M N P Q R : Type 0} → (M → L × P) → (N → M × Q) → (P → Q → R) → N → L × R
both_put f g h n = let m = g n in let l = f m.0 in (l.0, h l.1 m.1)

-- what follows from what stands after a call, if memory was not refused
pub so_put : {L N P Q : Type 0} → (N → L × P) → (P → Q) → N → L × Q
so_put f h n = let l = f n in (l.0, h l.1)

-- the texts of all items
pub text_whole : {X : Type 0} (text : X → List ℕ) (xs : List X) (i : ℕ) (old new : List ℕ) → length xs ≤ i
    → new ≡ old ++ flat_map text (take i xs) → new ≡ old ++ flat_map text xs
text_whole text xs i old new l e = e ∙ ap (λ (ys : List _). old ++ flat_map text ys) (take_all i xs l)

pub numbered_whole : {X : Type 0} (text : ℕ → X → List ℕ) (xs : List X) (i : ℕ) (old new : List ℕ) → length xs ≤ i
    → new ≡ old ++ numbered_texts text 0 (take i xs) → new ≡ old ++ numbered_texts text 0 xs
numbered_whole text xs i old new l e = e ∙ ap (λ (ys : List _). old ++ numbered_texts text 0 ys) (take_all i xs l)
