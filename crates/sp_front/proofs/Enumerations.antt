-- The constants of an enumeration are of an ordinal type.
use Rattle.std.proofs.Common.{◌≡◌, refl, ap, sym, ◌∙◌, subst, ℕ, zero, suc, ◌+◌, List, [], ◌∷◌, ◌++◌, Option, Some}
use Rattle.std.proofs.Common.{true, length, slice_get, arith}
use Rattle.sp_base.specs.declared.place.Place.{Place}
use Rattle.sp_tree.specs.declared.syntax.Name.{Name}
use Rattle.sp_tree.specs.NameFirst.{both_lists, all_at}
use Rattle.sp_tree.specs.Scopes as names
use Rattle.sp_tree.specs.NameWalk as w
use Rattle.sp_front.proofs.NoBreachInParts.{none_in_parts}
use Rattle.std.proofs.lemmas.List.{length-append}
use Rattle.std.proofs.lemmas.Option.{same_Some}
use Rattle.sp_tree.specs.Scopes.{Local, inner_env, local_of_inner}
use Rattle.sp_tree.specs.NameWalk.{blocks_around}
use Rattle.sp_tree.specs.declared.syntax.SynKind.TheVariants as kinds
use Rattle.sp_tree.specs.Scopes.{next_kind, next_block}
use Rattle.sp_tree.specs.NameWalk.{formals_local, title_local, heading_local}
use Rattle.sp_tree.specs.NameWalk.{parts_local, part_local}
use Rattle.sp_tree.specs.NamedTree.{enumeration_constants, parts_named, part_named}
use Rattle.sp_tree.specs.PlainSyntax.{Part, Const, Kind, Var, Proc, Parts, NoPart, Declare}
use Rattle.sp_front.proofs.DeclarationNumbers.{answer_adds, part_moves}
use Rattle.sp_tree.specs.NamedTree.{program_named}
use Rattle.sp_front.proofs.Blocks.{none_in_pieces, title_moves, formals_move}
use Rattle.sp_tree.specs.declared.named.NamedKind.{NamedKind}
use Rattle.sp_tree.specs.NameFirst.{broken_name_rules}
use Rattle.sp_tree.specs.Scopes.{empty_local, standard_scope}
use Rattle.sp_tree.specs.PlainSyntax as syntax
use Rattle.sp_tree.specs.declared.checked.KindOf.{KindOf}
use Rattle.sp_tree.specs.declared.named.NamedConstant.{NamedConstant}
use Rattle.sp_tree.specs.declared.named.NamedConstant.TheVariants as constant
use Rattle.sp_tree.specs.declared.named.NamedKindForm.{NamedKindForm}
use Rattle.sp_tree.specs.declared.named.NamedKindForm.TheVariants as form
use Rattle.sp_tree.specs.Cells.{first_or}
use Rattle.sp_types.specs.declared.tables.Ordinal.{Ordinal}
use Rattle.sp_types.specs.Tables.{number_by, next_by, numbers_from, type_number, kinds_by, kinds_from, numbers_of}
use Rattle.sp_types.specs.Tables.{constants_of, env_of}
use Rattle.sp_types.specs.TypeRules.{is_ordinal}
use Rattle.sp_front.specs.ConstantsDeclared.{AreEnumerated, HasOrdinalConstants}
use Rattle.sp_front.proofs.TypesFormed.{keeps}

abbrev IsOrdinalForm : NamedKindForm → Type 0
IsOrdinalForm (form.Alias k) = ⊥
IsOrdinalForm (form.Array a b e) = ⊥
IsOrdinalForm (form.Fields fs) = ⊥
IsOrdinalForm (form.Channel ks) = ⊥
IsOrdinalForm _ = Unit {0}

-- ---- a definition that makes a type stands at its own number

get_last : (xs : List ℕ) (x : ℕ) → slice_get (xs ++ x ∷ []) (length xs) ≡ Some x
get_last [] x = refl
get_last (y ∷ xs) x = get_last xs x

abbrev OrdinalAt : List ℕ → List KindOf → ℕ → ℕ → Type 0
OrdinalAt full ts next at = (t : ℕ) × (slice_get full at ≡ Some (next + t)) × (is_ordinal (slice_get ts t) ≡ true)

ordinal_at : (ns : List ℕ) (consts : List (Option Ordinal)) (known : List ℕ) (next : ℕ) (ks : List NamedKind) (j : ℕ)
    (d : NamedKind) → slice_get ks j ≡ Some d → IsOrdinalForm d.form
    → OrdinalAt (numbers_from known next ks) (kinds_from ns consts ks) next (length known + j)
ordinal_at ns consts known next [] j d e o = absurd (cc e)
ordinal_at ns consts known next (k ∷ ks) zero d e o =
    go k.form (subst (λ (z : NamedKind). IsOrdinalForm z.form) (sym (same_Some k d e)) o)
    (λ y h. keeps (known ++ y ∷ []) h ks (length known) y (get_last known y))
  where
    at_end : (z : ℕ) → (full : List ℕ) → slice_get full (length known) ≡ Some next
        → slice_get full (length known + 0) ≡ Some (next + 0)
    at_end z full h = let a : length known + 0 ≡ length known = omega arith in let b : next ≡ next + 0 = omega arith in
        ap (slice_get full) a ∙ h ∙ ap Some b

    go : (f : NamedKindForm) → IsOrdinalForm f
        → ((y h : ℕ) → slice_get (numbers_from (known ++ y ∷ []) h ks) (length known) ≡ Some y)
        → OrdinalAt (numbers_from (known ++ number_by known next f ∷ []) (next_by next f) ks)
        (kinds_by ns consts f ++ kinds_from ns consts ks) next (length known + 0)
    go form.Integer o h = (0, at_end 0 (numbers_from (known ++ next ∷ []) (next + 1) ks) (h next (next + 1)), refl)
    go form.Boolean o h = (0, at_end 0 (numbers_from (known ++ next ∷ []) (next + 1) ks) (h next (next + 1)), refl)
    go form.Char o h = (0, at_end 0 (numbers_from (known ++ next ∷ []) (next + 1) ks) (h next (next + 1)), refl)
    go (form.Enumeration m) o h = (
      0,
      at_end 0 (numbers_from (known ++ next ∷ []) (next + 1) ks) (h next (next + 1)),
      refl,
    )
    go (form.Alias j) o h = absurd o
    go (form.Array a b e) o h = absurd o
    go (form.Fields fs) o h = absurd o
    go (form.Channel cs) o h = absurd o
ordinal_at ns consts known next (k ∷ ks) (suc j) d e o =
    let y = number_by known next k.form in
    let l = length-append known (y ∷ []) in
    let z : length (known ++ y ∷ []) + j ≡ length known + suc j = omega (arith, l) in
    go k.form (subst (λ at. OrdinalAt (numbers_from (known ++ y ∷ []) (next_by next k.form) ks)
    (kinds_from ns consts ks) (next_by next k.form) at) z
    (ordinal_at ns consts (known ++ y ∷ []) (next_by next k.form) ks j d e o))
  where
    up : (full : List ℕ) (t : ℕ) → slice_get full (length known + suc j) ≡ Some ((next + 1) + t)
        → slice_get full (length known + suc j) ≡ Some (next + suc t)
    up full t h = h ∙ ap Some (let z : (next + 1) + t ≡ next + suc t = omega arith in z)

    go : (f : NamedKindForm) → OrdinalAt (numbers_from (known ++ number_by known next f ∷ []) (next_by next f) ks)
        (kinds_from ns consts ks) (next_by next f) (length known + suc j)
        → OrdinalAt (numbers_from (known ++ number_by known next f ∷ []) (next_by next f) ks)
        (kinds_by ns consts f ++ kinds_from ns consts ks) next (length known + suc j)
    go (form.Alias i) r = r
    go _ (t, h, r) = (suc t, up (numbers_from (known ++ next ∷ []) (next + 1) ks) t h, r)

-- ---- enumerations stand among the types

module _ (all : List NamedKind) where
  abbrev HoldsKinds : ℕ → List NamedKind → Type 0
  HoldsKinds j [] = Unit {0}
  HoldsKinds j (d ∷ ds) = (slice_get all j ≡ Some d) × HoldsKinds (suc j) ds

  kinds_parts : (j : ℕ) (xs ys : List NamedKind) → HoldsKinds j (xs ++ ys) → HoldsKinds j xs
      × HoldsKinds (j + length xs) ys
  kinds_parts j [] ys h = (tt, subst (λ z. HoldsKinds z ys) (let z : j ≡ j + 0 = omega arith in z) h)
  kinds_parts j (d ∷ xs) ys h = let r = kinds_parts (suc j) xs ys h.1 in (
    (h.0, r.0),
    subst (λ z. HoldsKinds z ys) (let z : suc j + length xs ≡ j + suc (length xs) = omega arith in z)
        r.1,
  )

  abbrev AreEnums : List NamedConstant → Type 0
  AreEnums [] = Unit {0}
  AreEnums (constant.Value c ∷ cs) = AreEnums cs
  AreEnums (constant.Enumerated k i ∷ cs) = ((d : NamedKind) × (slice_get all k ≡ Some d) × IsOrdinalForm d.form)
      × AreEnums cs

  enums_join : (xs ys : List NamedConstant) → AreEnums xs → AreEnums ys → AreEnums (xs ++ ys)
  enums_join [] ys x y = y
  enums_join (constant.Value c ∷ xs) ys x y = enums_join xs ys x y
  enums_join (constant.Enumerated k i ∷ xs) ys x y = (x.0, enums_join xs ys x.1 y)

  enumerated_at : (k i m : ℕ) (at : Place) (xs : List Name)
      → slice_get all k ≡ Some (record { at = at; form = form.Enumeration m }) → AreEnums (enumeration_constants k i xs)
  enumerated_at k i m at [] e = tt
  enumerated_at k i m at (x ∷ xs) e = (
    (record { at = at; form = form.Enumeration m }, e, tt),
    enumerated_at k (suc i) m at xs e,
  )

  mutual
    parts_enums : (around : List names.Scope) (l : Local) (ps : Parts)
        → w.parts_sites [] both_lists all_at around l ps ≡ []
        → HoldsKinds (next_kind l.counts) (parts_named around l ps).kinds → AreEnums (parts_named around l ps).constants
    parts_enums around l NoPart calm h = tt
    parts_enums around l (Declare q rest) calm h =
        let next = part_local l q in
        let two = none_in_parts (w.part_sites [] both_lists all_at around l q)
        (w.parts_sites [] both_lists all_at around next rest) calm in
        let a = part_named around l q in
        let b = parts_named around next rest in
        let hs = kinds_parts (next_kind l.counts) a.kinds b.kinds h in
        enums_join a.constants b.constants (part_enums around l q two.0 hs.0)
        (parts_enums around next rest two.1
        (subst (λ z. HoldsKinds z b.kinds) (sym (part_moves around l q two.0).kinds_are) hs.1))

    part_enums : (around : List names.Scope) (l : Local) (q : Part) → w.part_sites [] both_lists all_at around l q ≡ []
        → HoldsKinds (next_kind l.counts) (part_named around l q).kinds → AreEnums (part_named around l q).constants
    part_enums around l (Const x c) calm h = tt
    part_enums around l (Kind x (kinds.Alias t)) calm h = tt
    part_enums around l (Kind x (kinds.Enumeration xs)) calm h =
        enumerated_at (next_kind l.counts) 0 (length xs) x.at xs h.0
    part_enums around l (Kind x (kinds.Array lo hi t)) calm h = tt
    part_enums around l (Kind x (kinds.Record gs)) calm h = tt
    part_enums around l (Kind x (kinds.Channel ts)) calm h = tt
    part_enums around l (Var xs t) calm h = tt
    part_enums around l (Proc x fs answer parts body) calm h =
        let f = next_block l.counts in
        let title = title_local l x fs answer in
        let in_ = blocks_around around title in
        let head = heading_local l x fs answer in
        let formals = formals_local (local_of_inner f 0 title) fs in
        let t1 = (title_moves around l x fs answer parts body calm).kinds_are in
        let f1 = (formals_move around l x fs answer parts body calm).kinds_are in
        let a1 = (answer_adds formals (inner_env around l) f x answer).kinds_are in
        let at_head : next_kind l.counts ≡ next_kind head.counts = omega (arith, t1, f1, a1) in
        parts_enums in_ head parts (none_in_pieces around l x fs answer parts body calm).2
        (subst (λ z. HoldsKinds z (parts_named in_ head parts).kinds) at_head h)

holds_from : (all : List NamedKind) (j : ℕ) (ks : List NamedKind) → ((i : ℕ) → slice_get all (j + i) ≡ slice_get ks i)
    → HoldsKinds all j ks
holds_from all j [] h = tt
holds_from all j (d ∷ ds) h = (
  subst (λ z. slice_get all z ≡ Some d) (let z : j + 0 ≡ j = omega arith in z) (h 0),
  holds_from all (suc j) ds (λ i. subst (λ z. slice_get all z ≡ slice_get ds i)
      (let z : j + suc i ≡ suc j + i = omega arith in z) (h (suc i))),
)

pub program_given : (s : syntax.Program) → broken_name_rules s ≡ [] → HasOrdinalConstants (program_named s)
program_given s calm =
    let n_ = program_named s in
    let (_, (_, (_, declared))) = holds_from n_.kinds 0 n_.kinds
    (λ i. ap (slice_get n_.kinds) (let z : 0 + i ≡ i = omega arith in z)) in
    go n_.constants (
      (std_bool, refl, tt),
      (
        (std_bool, refl, tt),
        parts_enums n_.kinds (standard_scope ∷ []) empty_local s.block.parts two.0 declared,
      ),
    )
  where
    two : (w.parts_sites [] both_lists all_at (standard_scope ∷ []) empty_local s.block.parts ≡ [])
        × (w.statement_sites [] both_lists all_at (standard_scope ∷ []) (parts_local empty_local s.block.parts)
        s.block.body ≡ [])
    two = none_in_parts (w.parts_sites [] both_lists all_at (standard_scope ∷ []) empty_local s.block.parts)
        (w.statement_sites [] both_lists all_at (standard_scope ∷ []) (parts_local empty_local s.block.parts)
        s.block.body)
        (none_in_parts (w.files_sites [] both_lists all_at [] s.heading)
        (both_lists (w.parts_sites [] both_lists all_at (standard_scope ∷ []) empty_local s.block.parts)
        (w.statement_sites [] both_lists all_at (standard_scope ∷ []) (parts_local empty_local s.block.parts)
        s.block.body))
        calm).1

    std_bool : NamedKind
    std_bool = record { at = s.name.at; form = form.Boolean }

    go : (cs : List NamedConstant) → AreEnums (program_named s).kinds cs
        → AreEnumerated (env_of (program_named s)).kinds (numbers_of (program_named s)) cs
    go [] h = tt
    go (constant.Value c ∷ cs) h = go cs h
    go (constant.Enumerated k i ∷ cs) ((e, e_at, e_is), others) =
        let n_ = program_named s in
        let r = ordinal_at (numbers_of n_) (constants_of n_) [] 0 n_.kinds k e e_at e_is in
        let at : 0 + k ≡ k = omega arith in
        let num : type_number (numbers_of n_) k ≡ r.0 = ap (first_or 0) (ap (slice_get (numbers_of n_)) (sym at) ∙ r.1)
        ∙ (let z : 0 + r.0 ≡ r.0 = omega arith in z) in
        (subst (λ z. is_ordinal (slice_get (env_of n_).kinds z) ≡ true) (sym num) r.2, go cs others)
