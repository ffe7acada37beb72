-- Blocks of declarations in tables, and how names are looked up in them.
use Rattle.std.proofs.Common.{suc, length, map, ◌≡◌, refl, ap, ◌∙◌, List, [], ◌∷◌, ◌++◌, ℕ, Option, None, Bool}
use Rattle.std.proofs.Common.{if◌then◌else◌}
use Rattle.std.specs.Str.{bytes_eq}
use Rattle.indexmap.specs.IndexMap.{insert_entry}
use Rattle.sp_tree.specs.declared.meaning.Meaning.{Meaning}
use Rattle.sp_tree.specs.Scopes.{Scope, put, look, or_else, find_in}
use Rattle.sp_tree.specs.declared.syntax.SynArg.{SynArg}
use Rattle.sp_tree.specs.declared.syntax.Name.{Name}
use Rattle.sp_tree.specs.declared.syntax.SynFormal.{SynFormal}
use Rattle.sp_tree.specs.NameWalk.{count, references}
use Rattle.sp_scope.specs.Flags.{flags, all_flags}
use Rattle.sp_tree.specs.SyntaxOf.{arguments, argument_of}

-- a table takes an entry as a block takes a declaration
pub put_is : (b : Scope) (name : List ℕ) (m : Meaning) → insert_entry bytes_eq b name m ≡ put b name m
put_is [] name m = refl
put_is (e ∷ es) name m = ap (λ (r : Scope). if bytes_eq name e.0 then (e.0, m) ∷ es else e ∷ r) (put_is es name m)

at_end : {M : Type 0} (entries : M → Scope) (rest : List M) (b : M) (name : List ℕ) (given : Option Meaning)
    → find_in (map entries (rest ++ (b ∷ []))) name given
    ≡ or_else (look (entries b) name) (find_in (map entries rest) name given)
at_end entries [] b name given = refl
at_end entries (a ∷ rest) b name given = at_end entries rest b name (or_else (look (entries a) name) given)

-- the last block is looked at first
pub find_last : {M : Type 0} (entries : M → Scope) (bs rest : List M) (b : M) (name : List ℕ) → bs ≡ rest ++ (b ∷ [])
    → find_in (map entries bs) name None ≡ or_else (look (entries b) name) (find_in (map entries rest) name None)
find_last entries bs rest b name e = ap (λ xs. find_in (map entries xs) name None) e ∙ at_end entries rest b name None

-- the arguments in memory are as many
pub count_is : (xs : List SynArg) → length xs ≡ count (arguments (map argument_of xs))
count_is [] = refl
count_is (x ∷ xs) = ap suc (count_is xs)

flags_of : (b : Bool) (xs : List Name) → flags b xs ≡ map (λ (x : Name). b) xs
flags_of b [] = refl
flags_of b (x ∷ xs) = ap (λ l. b ∷ l) (flags_of b xs)

-- the flags of parameters
pub flags_are : (fs : List SynFormal) → all_flags fs ≡ references fs
flags_are [] = refl
flags_are (f ∷ fs) = ap (λ l. l ++ all_flags fs) (flags_of f.by_reference f.names)
    ∙ ap (λ l. map (λ (x : Name). f.by_reference) f.names ++ l) (flags_are fs)
