-- The text that is made of cells, by the form of their type, is the text of the value that the cells are.
use Rattle.std.proofs.Common.{◌≡◌, ℕ, zero, suc, ◌+◌, ◌<◌, List, [], ◌∷◌, ◌++◌, Some, length, replicate, map}
use Rattle.std.proofs.Common.{refl, sym, ap, ◌∙◌, subst, arith, zero-add, take, drop, append_assoc, slice_get}
use Rattle.std.proofs.lemmas.List.{append-nil, length-take-le}
use Rattle.std.proofs.lemmas.Option.{slice_get_within}
use Rattle.std.proofs.Math.Seq.{drop-append_seam}
use Rattle.std.specs.Prelude.{codes}
use Rattle.sp_base.proofs.Facts.{get_take}
use Rattle.sp_base.specs.Names.{channel_text}
use Rattle.sp_tree.proofs.Tables.{table_get, table_long}
use Rattle.sp_tree.specs.declared.checked.KindOf.{KindOf}
use Rattle.sp_tree.specs.declared.checked.KindOf.TheVariants as kind
use Rattle.sp_tree.specs.Cells.{count, first_or, table}
use Rattle.sp_tree.specs.TreeShape.{AreBefore, IsFormed}
use Rattle.sp_tree.specs.Plain.{Program}
use Rattle.sp_journal.specs.Births.{Births}
use Rattle.sp_journal.specs.Names.{Channel, chan_name}
use Rattle.sp_cell.specs.declared.cell.Cell.{Cell}
use Rattle.sp_cell.specs.declared.cell.Cell.TheVariants as cell
use Rattle.sp_meaning.specs.Values.{Value, Undefined, Ordinal, Chan, Parts, Values, End, Then, values, initial_by}
use Rattle.sp_meaning.specs.Values.{initials, get_at}
use Rattle.sp_codegen.specs.Shapes.{leaves, leaves_all, IsScalar, SameShape, SameShapes, CellIs, CellsAre}
use Rattle.sp_codegen.specs.Shapes.{Flat, PieceAt}
use Rattle.sp_where.specs.Values.{Piece, Fixed, CellOf, cell_channel_text, cell_text, comma}
use Rattle.sp_where.specs.Values.{cut, field_in, filled, form_by}
use Rattle.sp_where.specs.Values.{form_in, names_of, ordinal_text, parts_from, value_text}
use Rattle.sp_where.specs.Lines.{elements_text, fields_text, no_text, scalar_text, shown_text, text_by, text_in}

-- the result for type k is by those before it
table_at : {A : Type 0} (by : List A → KindOf → A) (ks : List KindOf) (k : ℕ) (t : KindOf) → slice_get ks k ≡ Some t
    → slice_get (table by [] ks) k ≡ Some (by (take k (table by [] ks)) t)
table_at by ks k t e = subst (λ n. slice_get (table by [] ks) n ≡ Some (by (take n (table by [] ks)) t)) (zero-add k)
    (table_get by ks [] k t e)

-- there are k results before it
before_long : {A : Type 0} (by : List A → KindOf → A) (ks : List KindOf) (k : ℕ) (t : KindOf) → slice_get ks k ≡ Some t
    → length (take k (table by [] ks)) ≡ k
before_long by ks k t e =
    let l = table_long by ks [] in
    let inside : k < length ks = slice_get_within ks k t e in
    length-take-le k (table by [] ks) (omega (arith, l, inside))

-- cells of two lists of leaves are in two parts
pub record InTwo (N : Channel → ℕ → Type 0) (us ws : List Value) (cs : List Cell) : Type 0 where
  pub front : List Cell
  pub back : List Cell
  pub whole : cs ≡ front ++ back
  pub long : length us ≡ length front
  pub firsts : CellsAre N us front
  pub lasts : CellsAre N ws back

pub in_two : (N : Channel → ℕ → Type 0) (us ws : List Value) (cs : List Cell) → CellsAre N (us ++ ws) cs
    → InTwo N us ws cs
in_two N [] ws cs h = record { front = []; back = cs; whole = refl; long = refl; firsts = tt; lasts = h }
in_two N (u ∷ us) ws [] h = absurd h
in_two N (u ∷ us) ws (c ∷ cs) h =
    let z = in_two N us ws cs h.1 in
    record {
      front = c ∷ z.front;
      back = z.back;
      whole = ap (λ y. c ∷ y) z.whole;
      long = ap suc z.long;
      firsts = (h.0, z.firsts);
      lasts = z.lasts;
    }

-- N: a channel's name and its number; the number is written as the name
module _ (kinds : List KindOf) (constants : List (List (List ℕ))) (s : Births) (N : Channel → ℕ → Type 0)
    (named : (c : Channel) (j : ℕ) → N c j → cell_channel_text s j ≡ channel_text (chan_name c)) where
  abbrev F : List Piece → List Cell → List ℕ
  F ps cs = filled kinds constants s ps cs

  -- with cells of a value that has the shape of this one, the form is filled to the text of the value
  abbrev Writes : List Piece → Value → (Value → List ℕ) → Type 0
  Writes form first text = (v : Value) → SameShape first v → (cs : List Cell) → CellsAre N (leaves v) cs
      → (ps : List Piece) (ds : List Cell) → F (form ++ ps) (cs ++ ds) ≡ text v ++ F ps ds

  -- ---- one cell

  one_cell : (k : ℕ) (v : Value) → IsScalar v → (c : Cell) → CellIs N v c
      → cell_text kinds constants s k c ≡ scalar_text kinds constants k v
  one_cell k Undefined i cell.Undefined h = refl
  one_cell k Undefined i (cell.Ordinal n) h = absurd h
  one_cell k Undefined i (cell.Channel c) h = absurd h
  one_cell k (Ordinal n) i cell.Undefined h = absurd h
  one_cell k (Ordinal n) i (cell.Ordinal m) h = ap (λ z. ordinal_text (names_of constants k) (slice_get kinds k) z)
      (sym h)
  one_cell k (Ordinal n) i (cell.Channel c) h = absurd h
  one_cell k (Chan d) i cell.Undefined h = absurd h
  one_cell k (Chan d) i (cell.Ordinal n) h = absurd h
  one_cell k (Chan d) i (cell.Channel c) h = named d c h
  one_cell k (Parts vs) i c h = absurd i

  cell_written : (a k : ℕ) → a ≡ k → (v : Value) → IsScalar v → (cs : List Cell) → CellsAre N (v ∷ []) cs
      → (ps : List Piece) (ds : List Cell) → F ((CellOf a ∷ []) ++ ps) (cs ++ ds)
      ≡ scalar_text kinds constants k v ++ F ps ds
  cell_written a k e v i [] h ps ds = absurd h
  cell_written a k e v i (c ∷ []) h ps ds = ap (λ z. z ++ F ps ds)
      (one_cell a v i c h.0 ∙ ap (λ n. scalar_text kinds constants n v) e)
  cell_written a k e v i (c ∷ d ∷ cs) h ps ds = absurd h.1

  scalars : (a k : ℕ) → a ≡ k → Writes (CellOf a ∷ []) Undefined (scalar_text kinds constants k)
  scalars a k e Undefined i cs h ps ds = cell_written a k e Undefined i cs h ps ds
  scalars a k e (Ordinal n) i cs h ps ds = cell_written a k e (Ordinal n) i cs h ps ds
  scalars a k e (Chan c) i cs h ps ds = cell_written a k e (Chan c) i cs h ps ds
  scalars a k e (Parts vs) i cs h ps ds = absurd i

  -- ---- elements

  elements : (form : List Piece) (first : Value) (text : Value → List ℕ) → Writes form first text → (n i : ℕ)
      (vs : Values) → SameShapes (values (replicate n first)) vs → (cs : List Cell) → CellsAre N (leaves_all vs) cs
      → (ps : List Piece) (ds : List Cell) → F (parts_from i (replicate n form) ++ ps) (cs ++ ds)
      ≡ elements_text i text vs ++ F ps ds
  elements form first text w zero i End h [] c ps ds = refl
  elements form first text w zero i End h (x ∷ cs) c ps ds = absurd c
  elements form first text w zero i (Then v vs) h cs c ps ds = absurd h
  elements form first text w (suc n) i End h cs c ps ds = absurd h
  elements form first text w (suc n) i (Then v vs) h cs c ps ds =
      let z = in_two N (leaves v) (leaves_all vs) cs c in
      let rest = parts_from (i + 1) (replicate n form) in
      let more = elements_text (i + 1) text vs in
      ap (λ y. comma i ++ y)
      (ap (λ y. F y (cs ++ ds)) (append_assoc form rest ps)
      ∙ ap (λ y. F (form ++ (rest ++ ps)) (y ++ ds)) z.whole
      ∙ ap (λ y. F (form ++ (rest ++ ps)) y) (append_assoc z.front z.back ds)
      ∙ w v h.0 z.front z.firsts (rest ++ ps) (z.back ++ ds)
      ∙ ap (λ y. text v ++ y) (elements form first text w n (i + 1) vs h.1 z.back z.lasts ps ds))
      ∙ sym (append_assoc (comma i) (text v) (more ++ F ps ds))
      ∙ sym (append_assoc (comma i ++ text v) more (F ps ds))

  -- ---- fields

  -- how the values of each field's type are written
  abbrev AllWrite : List (List Piece) → List Value → List (Value → List ℕ) → List (List ℕ × ℕ) → Type 0
  AllWrite forms firsts texts [] = Unit {0}
  AllWrite forms firsts texts (f ∷ fs) =
      Writes (form_in forms f.1) (first_or Undefined (slice_get firsts f.1)) (text_in texts f.1)
      × AllWrite forms firsts texts fs

  fields : (forms : List (List Piece)) (firsts : List Value) (texts : List (Value → List ℕ)) (fs : List (List ℕ × ℕ))
      → AllWrite forms firsts texts fs → (i : ℕ) (vs : Values)
      → SameShapes (values (map (λ (f : List ℕ × ℕ). first_or Undefined (slice_get firsts f.1)) fs)) vs
      → (cs : List Cell) → CellsAre N (leaves_all vs) cs → (ps : List Piece) (ds : List Cell)
      → F (parts_from i (map (field_in forms) fs) ++ ps) (cs ++ ds) ≡ fields_text i texts fs vs ++ F ps ds
  fields forms firsts texts [] w i End h [] c ps ds = refl
  fields forms firsts texts [] w i End h (x ∷ cs) c ps ds = absurd c
  fields forms firsts texts [] w i (Then v vs) h cs c ps ds = absurd h
  fields forms firsts texts (f ∷ fs) w i End h cs c ps ds = absurd h
  fields forms firsts texts (f ∷ fs) w i (Then v vs) h cs c ps ds =
      let z = in_two N (leaves v) (leaves_all vs) cs c in
      let form = form_in forms f.1 in
      let rest = parts_from (i + 1) (map (field_in forms) fs) in
      let text = text_in texts f.1 v in
      let more = fields_text (i + 1) texts fs vs in
      ap (λ y. comma i ++ (f.0 ++ (codes ": " ++ y)))
      (ap (λ y. F y (cs ++ ds)) (append_assoc form rest ps)
      ∙ ap (λ y. F (form ++ (rest ++ ps)) (y ++ ds)) z.whole
      ∙ ap (λ y. F (form ++ (rest ++ ps)) y) (append_assoc z.front z.back ds)
      ∙ w.0 v h.0 z.front z.firsts (rest ++ ps) (z.back ++ ds)
      ∙ ap (λ y. text ++ y) (fields forms firsts texts fs w.1 (i + 1) vs h.1 z.back z.lasts ps ds))
      ∙ sym (append_assoc (comma i) f.0 (codes ": " ++ (text ++ (more ++ F ps ds))))
      ∙ sym (append_assoc (comma i ++ f.0) (codes ": ") (text ++ (more ++ F ps ds)))
      ∙ sym (append_assoc (comma i ++ f.0 ++ codes ": ") text (more ++ F ps ds))
      ∙ sym (append_assoc (comma i ++ f.0 ++ codes ": " ++ text) more (F ps ds))

  -- ---- what stands between brackets

  between : (before after : List ℕ) (inner ps : List Piece) (text : List ℕ) (cs ds : List Cell)
      → F (inner ++ ((Fixed after ∷ []) ++ ps)) (cs ++ ds) ≡ text ++ F ((Fixed after ∷ []) ++ ps) ds
      → F ((Fixed before ∷ inner ++ Fixed after ∷ []) ++ ps) (cs ++ ds) ≡ (before ++ text ++ after) ++ F ps ds
  between before after inner ps text cs ds h =
      ap (λ y. before ++ y) (ap (λ y. F y (cs ++ ds)) (append_assoc inner (Fixed after ∷ []) ps) ∙ h)
      ∙ sym (append_assoc before text (after ++ F ps ds))
      ∙ sym (append_assoc (before ++ text) after (F ps ds))

-- ---- types

module _ (p : Program) (formed : IsFormed p) (constants : List (List (List ℕ))) (s : Births)
    (N : Channel → ℕ → Type 0)
    (named : (c : Channel) (j : ℕ) → N c j → cell_channel_text s j ≡ channel_text (chan_name c)) where
  abbrev forms : List (List Piece)
  forms = table form_by [] p.kinds

  abbrev texts : List (Value → List ℕ)
  texts = table (text_by p.kinds constants) [] p.kinds

  abbrev W : List (List Piece) → List Value → List (Value → List ℕ) → ℕ → Type 0
  W fs vs ts k = Writes p.kinds constants s N named (form_in fs k) (first_or Undefined (slice_get vs k)) (text_in ts k)

  -- the values of this type are written so
  abbrev IsWritten : ℕ → Type 0
  IsWritten k = W forms (initials p.kinds) texts k

  -- what is said by whole tables is so by their beginnings
  before : (k e : ℕ) → e < k → IsWritten e → W (take k forms) (take k (initials p.kinds)) (take k texts) e
  before k e l w =
      subst (λ z. Writes p.kinds constants s N named (form_in (take k forms) e)
      (first_or Undefined (slice_get (take k (initials p.kinds)) e)) (first_or no_text z))
      (sym (get_take texts k e l))
      (subst (λ z. Writes p.kinds constants s N named (form_in (take k forms) e) (first_or Undefined z)
      (text_in texts e))
      (sym (get_take (initials p.kinds) k e l))
      (subst (λ z. Writes p.kinds constants s N named (first_or [] z)
      (first_or Undefined (slice_get (initials p.kinds) e)) (text_in texts e))
      (sym (get_take forms k e l)) w))

  fields_before : (k : ℕ) → ((e : ℕ) → e < k → IsWritten e) → (fs : List (List ℕ × ℕ)) → AreBefore k fs
      → AllWrite p.kinds constants s N named (take k forms) (take k (initials p.kinds)) (take k texts) fs
  fields_before k ih [] b = tt
  fields_before k ih (f ∷ fs) b = (before k f.1 b.0 (ih f.1 b.0), fields_before k ih fs b.1)

  -- by the type
  abbrev ByType : ℕ → KindOf → Type 0
  ByType k t = Writes p.kinds constants s N named (form_by (take k forms) t) (initial_by (take k (initials p.kinds)) t)
      (text_by p.kinds constants (take k texts) t)

  same_long : (k : ℕ) (t : KindOf) → slice_get p.kinds k ≡ Some t → length (take k forms) ≡ length (take k texts)
  same_long k t e = before_long form_by p.kinds k t e ∙ sym (before_long (text_by p.kinds constants) p.kinds k t e)

  by_type : (k : ℕ) → ((e : ℕ) → e < k → IsWritten e) → (t : KindOf) → slice_get p.kinds k ≡ Some t → ByType k t
  by_type k ih kind.Integer e = scalars p.kinds constants s N named _ _ (same_long k kind.Integer e)
  by_type k ih kind.Boolean e = scalars p.kinds constants s N named _ _ (same_long k kind.Boolean e)
  by_type k ih kind.Char e = scalars p.kinds constants s N named _ _ (same_long k kind.Char e)
  by_type k ih (kind.Enumeration n) e = scalars p.kinds constants s N named _ _ (same_long k (kind.Enumeration n) e)
  by_type k ih (kind.Channel ks) e = scalars p.kinds constants s N named _ _ (same_long k (kind.Channel ks) e)
  by_type k ih (kind.Array low high index element) e = by_shape
    where
      l : element < k
      l = (formed.arrays k low high index element e).0

      by_shape : ByType k (kind.Array low high index element)
      by_shape Undefined h cs c ps ds = absurd h
      by_shape (Ordinal n) h cs c ps ds = absurd h
      by_shape (Chan d) h cs c ps ds = absurd h
      by_shape (Parts vs) h cs c ps ds =
          between p.kinds constants s N named (codes "[") (codes "]")
          (parts_from 0 (replicate (count low high) (form_in (take k forms) element))) ps
          (elements_text 0 (text_in (take k texts) element) vs) cs ds
          (elements p.kinds constants s N named (form_in (take k forms) element)
          (first_or Undefined (slice_get (take k (initials p.kinds)) element)) (text_in (take k texts) element)
          (before k element l (ih element l)) (count low high) 0 vs h cs c ((Fixed (codes "]") ∷ []) ++ ps) ds)
  by_type k ih (kind.Fields fs) e = by_shape
    where
      by_shape : ByType k (kind.Fields fs)
      by_shape Undefined h cs c ps ds = absurd h
      by_shape (Ordinal n) h cs c ps ds = absurd h
      by_shape (Chan d) h cs c ps ds = absurd h
      by_shape (Parts vs) h cs c ps ds =
          between p.kinds constants s N named (codes "(") (codes ")")
          (parts_from 0 (map (field_in (take k forms)) fs)) ps (fields_text 0 (take k texts) fs vs) cs ds
          (fields p.kinds constants s N named (take k forms) (take k (initials p.kinds)) (take k texts) fs
          (fields_before k ih fs (formed.fields k fs e).0) 0 vs h cs c ((Fixed (codes ")") ∷ []) ++ ps) ds)

  of_type : (k : ℕ) → ((e : ℕ) → e < k → IsWritten e) → (t : KindOf) → slice_get p.kinds k ≡ Some t → IsWritten k
  of_type k ih t e =
      subst (λ z. Writes p.kinds constants s N named (form_in forms k)
      (first_or Undefined (slice_get (initials p.kinds) k)) (first_or no_text z))
      (sym (table_at (text_by p.kinds constants) p.kinds k t e))
      (subst (λ z. Writes p.kinds constants s N named (form_in forms k) (first_or Undefined z)
      (text_by p.kinds constants (take k texts) t))
      (sym (table_at initial_by p.kinds k t e))
      (subst (λ z. Writes p.kinds constants s N named (first_or [] z) (initial_by (take k (initials p.kinds)) t)
      (text_by p.kinds constants (take k texts) t))
      (sym (table_at form_by p.kinds k t e)) (by_type k ih t e)))

  there_is : (ks : List KindOf) (k : ℕ) → k < length ks → (t : KindOf) × (slice_get ks k ≡ Some t)
  there_is [] k l = absurd (omega (arith, l))
  there_is (t ∷ ks) zero l = (t, refl)
  there_is (t ∷ ks) (suc k) l = there_is ks k (omega (arith, l))

  written_to : (n k : ℕ) → k < n → k < length p.kinds → IsWritten k
  written_to zero k l m = absurd (omega (arith, l))
  written_to (suc n) k l m =
      let t = there_is p.kinds k m in
      of_type k (λ e b. written_to n e (omega (arith, l, b)) (omega (arith, b, m))) t.0 t.1

  written : (k : ℕ) → k < length p.kinds → IsWritten k
  written k m = written_to (suc k) k (omega arith) m

  -- ---- a component of a value

  dropped : (n : ℕ) (front back cs : List Cell) → cs ≡ front ++ back → length front ≡ n → drop n cs ≡ back
  dropped n front back cs e l = ap (λ z. drop z cs) (sym l) ∙ ap (drop (length front)) e
      ∙ drop-append_seam front back

  -- the text made of the cells from the component's first one on is the text of the component
  pub component_text : (k0 : ℕ) (path : List ℕ) (offset k : ℕ) (v : Value) (cs : List Cell) → Flat p N k0 v cs
      → PieceAt p k0 path offset k v → k < length p.kinds
      → value_text p.kinds constants s k (drop offset cs) ≡ shown_text p.kinds constants k (get_at path v)
  component_text k0 path offset k v cs flat at l =
      let a = in_two N at.front (leaves (get_at path v) ++ at.back) cs
      (subst (λ z. CellsAre N z cs) at.leaves_are flat.1) in
      let b = in_two N (leaves (get_at path v)) at.back a.back a.lasts in
      let form = form_in forms k in
      ap (cut 120)
      (ap (λ z. F p.kinds constants s N named form z)
      (dropped offset a.front a.back cs a.whole (sym a.long ∙ at.offset_is) ∙ b.whole)
      ∙ ap (λ z. F p.kinds constants s N named z (b.front ++ b.back)) (sym (append-nil form))
      ∙ written k l (get_at path v) at.shaped b.front b.firsts [] b.back
      ∙ append-nil (text_in texts k (get_at path v)))
