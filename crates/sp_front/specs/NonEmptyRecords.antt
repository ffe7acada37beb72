-- None of this belongs to what the program promises: it is for contracts between crates.
-- What the grammar gives: a record has a field. It is kept through the phase of names, since a type without cells
-- would have no code.
use Rattle.std.specs.Prelude.{List, [], ◌∷◌}
use Rattle.sp_tree.specs.declared.named.NamedKind.{NamedKind}
use Rattle.sp_tree.specs.declared.named.NamedKindForm.{NamedKindForm}
use Rattle.sp_tree.specs.declared.named.NamedKindForm.TheVariants as form

abbrev pub IsNonEmptyKind : NamedKindForm → Type 0
IsNonEmptyKind form.Integer = Unit {0}
IsNonEmptyKind form.Boolean = Unit {0}
IsNonEmptyKind form.Char = Unit {0}
IsNonEmptyKind (form.Alias k) = Unit {0}
IsNonEmptyKind (form.Enumeration m) = Unit {0}
IsNonEmptyKind (form.Array a b e) = Unit {0}
IsNonEmptyKind (form.Fields []) = ⊥
IsNonEmptyKind (form.Fields (f ∷ fs)) = Unit {0}
IsNonEmptyKind (form.Channel ks) = Unit {0}

abbrev pub AreNonEmptyKinds : List NamedKind → Type 0
AreNonEmptyKinds [] = Unit {0}
AreNonEmptyKinds (k ∷ ks) = IsNonEmptyKind k.form × AreNonEmptyKinds ks
