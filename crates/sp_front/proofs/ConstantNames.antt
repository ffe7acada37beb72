-- An enumeration among the types of a text's tree has as many constants as names.
use Rattle.std.proofs.Common.{◌≡◌, ℕ, zero, suc, ℤ, pos, List, [], ◌∷◌, ◌++◌, map, length, Option, Some, Bool}
use Rattle.std.proofs.Common.{true}
use Rattle.std.proofs.Common.{false, refl, sym, ap, ap₂, ◌∙◌, subst, append_assoc, append-nil}
use Rattle.std.specs.Prelude.{slice_get, if◌then◌else◌}
use Rattle.sp_tree.specs.declared.checked.KindOf.{KindOf}
use Rattle.sp_tree.specs.declared.checked.KindOf.TheVariants as kind
use Rattle.sp_tree.specs.declared.named.NamedKind.{NamedKind}
use Rattle.sp_tree.specs.declared.named.NamedKindForm.{NamedKindForm}
use Rattle.sp_tree.specs.declared.named.NamedKindForm.TheVariants as form
use Rattle.sp_tree.specs.declared.syntax.Name.{Name}
use Rattle.sp_tree.specs.declared.syntax.SynKind.{SynKind}
use Rattle.sp_tree.specs.declared.syntax.SynKind.TheVariants as kinds
use Rattle.sp_tree.specs.Breaches.{IsTree}
use Rattle.sp_tree.specs.NameFirst.{names_first}
use Rattle.sp_tree.specs.NamedTree.{kind_named, part_named, parts_named, program_named}
use Rattle.sp_tree.specs.PlainChecked as c
use Rattle.sp_tree.specs.PlainNamed as n
use Rattle.sp_tree.specs.PlainSyntax as s
use Rattle.sp_tree.specs.Scopes.{Env, Local, Scope, inner_env}
use Rattle.sp_types.specs.CheckedTree.{program_checked}
use Rattle.sp_types.specs.declared.tables.Ordinal.{Ordinal}
use Rattle.sp_types.specs.Tables.{kinds_by, kinds_from, numbers_of, constants_of as known_of}
use Rattle.sp_types.specs.TypeFirst.{types_first}
use Rattle.sp_lines.specs.Constants.{by_kind, constants_at, constants_of, kind_constants, names, part_constants}
use Rattle.sp_lines.specs.Constants.{parts_constants}
use Rattle.sp_front.specs.Checks.{IsChecked}
use Rattle.sp_front.proofs.StatementNumbers.{given}
use Rattle.sp_front.proofs.OneAnswer.{OneTree}

-- ---- how many constants the enumerations have, in order

abbrev sizes_by : KindOf → List ℕ
sizes_by (kind.Enumeration n) = n ∷ []
sizes_by _ = []

abbrev sizes : List KindOf → List ℕ
sizes [] = []
sizes (k ∷ ks) = sizes_by k ++ sizes ks

sizes_both : (a b : List KindOf) → sizes (a ++ b) ≡ sizes a ++ sizes b
sizes_both [] b = refl
sizes_both (k ∷ ks) b = ap (λ (l : List ℕ). sizes_by k ++ l) (sizes_both ks b)
    ∙ sym (append_assoc (sizes_by k) (sizes ks) (sizes b))

abbrev form_sizes : NamedKindForm → List ℕ
form_sizes (form.Enumeration m) = m ∷ []
form_sizes _ = []

abbrev named_sizes : List NamedKind → List ℕ
named_sizes [] = []
named_sizes (k ∷ ks) = form_sizes k.form ++ named_sizes ks

named_both : (a b : List NamedKind) → named_sizes (a ++ b) ≡ named_sizes a ++ named_sizes b
named_both [] b = refl
named_both (k ∷ ks) b = ap (λ (l : List ℕ). form_sizes k.form ++ l) (named_both ks b)
    ∙ sym (append_assoc (form_sizes k.form) (named_sizes ks) (named_sizes b))

-- ---- from the types as declared to those of the tree

no_size : (b : Bool) (low high : ℤ) (index i element : ℕ)
    → sizes ((if b then kind.Array low high index element else kind.Array (pos 1) (pos 0) i element) ∷ []) ≡ []
no_size true low high index i element = refl
no_size false low high index i element = refl

form_sized : (numbers : List ℕ) (known : List (Option Ordinal)) (f : NamedKindForm)
    → sizes (kinds_by numbers known f) ≡ form_sizes f
form_sized numbers known (form.Array a b e) = no_size _ _ _ _ _ _
form_sized _ _ _ = refl

kinds_sized : (numbers : List ℕ) (known : List (Option Ordinal)) (ks : List NamedKind)
    → sizes (kinds_from numbers known ks) ≡ named_sizes ks
kinds_sized numbers known [] = refl
kinds_sized numbers known (k ∷ ks) = sizes_both (kinds_by numbers known k.form) (kinds_from numbers known ks)
    ∙ ap₂ (λ (x y : List ℕ). x ++ y) (form_sized numbers known k.form) (kinds_sized numbers known ks)

-- ---- from the text to the types as declared

as_many : (xs : List Name) → length xs ≡ length (names xs)
as_many [] = refl
as_many (x ∷ xs) = ap suc (as_many xs)

map_both : (a b : List (List (List ℕ))) → map length (a ++ b) ≡ map length a ++ map length b
map_both [] b = refl
map_both (x ∷ xs) b = ap (λ (l : List ℕ). length x ∷ l) (map_both xs b)

kind_sized : (env : Env) (k : SynKind) → form_sizes (kind_named env k) ≡ map length (kind_constants k)
kind_sized env (kinds.Enumeration xs) = ap (λ (m : ℕ). m ∷ []) (as_many xs)
kind_sized _ _ = refl

mutual
  parts_sized : (around : List Scope) (l : Local) (ps : s.Parts)
      → named_sizes (parts_named around l ps).kinds ≡ map length (parts_constants ps)
  parts_sized around l s.NoPart = refl
  parts_sized around l (s.Declare p rest) =
      named_both (part_named around l p).kinds _
      ∙ ap₂ (λ (x y : List ℕ). x ++ y) (part_sized around l p) (parts_sized around _ rest)
      ∙ sym (map_both (part_constants p) (parts_constants rest))

  part_sized : (around : List Scope) (l : Local) (p : s.Part)
      → named_sizes (part_named around l p).kinds ≡ map length (part_constants p)
  part_sized around l (s.Const x v) = refl
  part_sized around l (s.Kind x k) = append-nil _ ∙ kind_sized (inner_env around l) k
  part_sized around l (s.Var xs t) = refl
  part_sized around l (s.Proc x fs answer parts body) = parts_sized _ _ parts

program_sized : (p : s.Program) → sizes (program_checked (program_named p)).kinds ≡ map length (constants_of p)
program_sized p = kinds_sized (numbers_of (program_named p)) (known_of (program_named p)) (program_named p).kinds
    ∙ parts_sized _ _ p.block.parts

-- ---- one enumeration

same_head : (a b : ℕ) (xs ys : List ℕ) → a ∷ xs ≡ b ∷ ys → a ≡ b
same_head a b xs ys e = cc e

same_rest : (a b : ℕ) (xs ys : List ℕ) → a ∷ xs ≡ b ∷ ys → xs ≡ ys
same_rest a b xs ys e = cc e

same_size : (m n : ℕ) → ◌≡◌ {A = Option KindOf} (Some (kind.Enumeration m)) (Some (kind.Enumeration n)) → m ≡ n
same_size m n e = cc e

named_each : (ks : List KindOf) (cs : List (List (List ℕ))) (k n : ℕ) → sizes ks ≡ map length cs
    → slice_get ks k ≡ Some (kind.Enumeration n) → length (constants_at (by_kind ks cs) k) ≡ n
named_each [] cs k n e f = absurd (cc f)
named_each (kind.Enumeration m ∷ ks) [] k n e f = absurd (cc e)
named_each (kind.Enumeration m ∷ ks) (c ∷ cs) zero n e f = sym (same_head m (length c) _ _ e) ∙ same_size m n f
named_each (kind.Enumeration m ∷ ks) (c ∷ cs) (suc k) n e f =
    named_each ks cs k n (same_rest m (length c) (sizes ks) (map length cs) e) f
named_each (kind.Integer ∷ ks) cs zero n e f = absurd (cc f)
named_each (kind.Integer ∷ ks) cs (suc k) n e f = named_each ks cs k n e f
named_each (kind.Boolean ∷ ks) cs zero n e f = absurd (cc f)
named_each (kind.Boolean ∷ ks) cs (suc k) n e f = named_each ks cs k n e f
named_each (kind.Char ∷ ks) cs zero n e f = absurd (cc f)
named_each (kind.Char ∷ ks) cs (suc k) n e f = named_each ks cs k n e f
named_each (kind.Array low high index element ∷ ks) cs zero n e f = absurd (cc f)
named_each (kind.Array low high index element ∷ ks) cs (suc k) n e f = named_each ks cs k n e f
named_each (kind.Fields fs ∷ ks) cs zero n e f = absurd (cc f)
named_each (kind.Fields fs ∷ ks) cs (suc k) n e f = named_each ks cs k n e f
named_each (kind.Channel ts ∷ ks) cs zero n e f = absurd (cc f)
named_each (kind.Channel ts ∷ ks) cs (suc k) n e f = named_each ks cs k n e f

-- the types of a text's tree go with the enumerations that its tokens declare
text_sized : OneTree → (text : List ℕ) (p : c.Program) (tree : s.Program) → IsChecked text p → IsTree text tree
    → sizes p.kinds ≡ map length (constants_of tree)
text_sized one text p tree (named, (found, t, e), f) is =
    let is_named : program_named found ≡ named = given (names_first found) (program_named found) named e in
    let is_checked : program_checked named ≡ p = given (types_first named) (program_checked named) p f in
    subst (λ (q : s.Program). sizes p.kinds ≡ map length (constants_of q)) (one text found tree t is)
    (subst (λ (q : c.Program). sizes q.kinds ≡ map length (constants_of found)) is_checked
    (subst (λ (q : n.Program). sizes (program_checked q).kinds ≡ map length (constants_of found)) is_named
    (program_sized found)))

pub as_many_names : OneTree → (text : List ℕ) (p : c.Program) (tree : s.Program) → IsChecked text p → IsTree text tree
    → (table : List (List (List ℕ))) → table ≡ by_kind p.kinds (constants_of tree) → (k n : ℕ)
    → slice_get p.kinds k ≡ Some (kind.Enumeration n) → length (constants_at table k) ≡ n
as_many_names one text p tree h is table e k n f =
    ap (λ (t : List (List (List ℕ))). length (constants_at t k)) e
    ∙ named_each p.kinds (constants_of tree) k n (text_sized one text p tree h is) f
