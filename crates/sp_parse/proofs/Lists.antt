-- Lists of the syntax tree, and those of the plain tree.
use Rattle.std.proofs.Common.{◌≡◌, List, [], ◌∷◌, ◌++◌, map, refl, sym as back_of, ap, ◌∙◌}
use Rattle.sp_base.specs.declared.place.Place.{Place}
use Rattle.sp_tree.specs.declared.syntax.SynPart.{SynPart}
use Rattle.sp_tree.specs.PlainSyntax as tree
use Rattle.sp_tree.specs.SyntaxOf as syntax
use Rattle.sp_tree.specs.SyntaxOf.{part_of, parts as laid}
use Rattle.sp_tree.specs.Grammar.{with_part_first}
use Rattle.sp_parse.specs.Trees.{lay, and_parts}

-- lists of the plain tree
pub lay_push : {A B M : Type 0} (cons : B → M → M) (f : A → B) (xs : List A) (x : A) (more : M)
    → lay cons (map f (xs ++ x ∷ [])) more ≡ lay cons (map f xs) (cons (f x) more)
lay_push cons f [] x more = refl
lay_push cons f (y ∷ xs) x more = ap (cons (f y)) (lay_push cons f xs x more)

pub lay_selectors : (ss : List tree.Selector) → lay tree.Select ss tree.Whole ≡ syntax.selectors ss
lay_selectors [] = refl
lay_selectors (s ∷ ss) = ap (tree.Select s) (lay_selectors ss)

pub lay_arguments : (args : List tree.Argument) → lay tree.AndArgument args tree.NoArgument ≡ syntax.arguments args
lay_arguments [] = refl
lay_arguments (a ∷ rest) = ap (tree.AndArgument a) (lay_arguments rest)

pub lay_statements : (all : List tree.Statement) → lay tree.AndThen all tree.NoStatement ≡ syntax.statements all
lay_statements [] = refl
lay_statements (s ∷ rest) = ap (tree.AndThen s) (lay_statements rest)

pub lay_arms : (all : List tree.Arm) → lay tree.Or all tree.NoArm ≡ syntax.arms all
lay_arms [] = refl
lay_arms (a ∷ rest) = ap (tree.Or a) (lay_arms rest)

pub lay_branches : (all : List tree.Statements) → lay tree.Beside all tree.NoBranch ≡ syntax.branches all
lay_branches [] = refl
lay_branches (a ∷ rest) = ap (tree.Beside a) (lay_branches rest)

pub lay_parts : (ps : List tree.Part) → lay tree.Declare ps tree.NoPart ≡ laid ps
lay_parts [] = refl
lay_parts (p ∷ ps) = ap (tree.Declare p) (lay_parts ps)

pub part_behind : (ps : List SynPart) (p : SynPart) (b : tree.Block)
    → and_parts (ps ++ p ∷ []) b ≡ and_parts ps (with_part_first (part_of p) b)
part_behind ps p b = ap (λ l. (let r : tree.Block = record { parts = l; body = b.body } in r))
    (lay_push tree.Declare part_of ps p b.parts)

-- a block of declarations and statements
pub block_same : (at : Place) (all : List SynPart) {ss us : tree.Statements} → ss ≡ us
    → (let b : tree.Block = record { parts = laid (map part_of all); body = tree.Does at (tree.Sequence ss) } in b)
    ≡ and_parts all (record { parts = tree.NoPart; body = tree.Does at (tree.Sequence us) })
block_same at all {ss} {us} q = ap (λ ps.
    (let b : tree.Block = record { parts = ps; body = tree.Does at (tree.Sequence ss) } in b))
    (back_of (lay_parts (map part_of all)))
    ∙ ap (λ ss. (let b : tree.Block = record {
      parts = lay tree.Declare (map part_of all) tree.NoPart;
      body = tree.Does at (tree.Sequence ss);
    } in b)) q
