-- Where no two statements of a tree have one number, two with one number are one statement.
use Rattle.std.proofs.Common.{◌≡◌, ◌≢◌, ◌⊎◌, inl, inr, ℕ, zero, suc, List, [], ◌∷◌, ◌++◌, map, Some, slice_get, refl}
use Rattle.std.proofs.Common.{sym, ap, ◌∙◌, subst}
use Rattle.std.proofs.lemmas.List.{map-append}
use Rattle.sp_tree.specs.PlainChecked.{Statement, Does, Form, Sequence, If, While, Repeat, For, Case, Parallel, Forall}
use Rattle.sp_tree.specs.PlainChecked.{ElsePart, NoElse, Else, Statements, NoStatement, AndThen, On, Arms, NoArm, Or}
use Rattle.sp_tree.specs.PlainChecked.{Block, Program}
use Rattle.sp_types.specs.StatementNumbers.{statement_numbers, form_numbers, other_numbers, statements_numbers}
use Rattle.sp_types.specs.StatementNumbers.{arms_numbers, blocks_numbers, DiffersFrom, AllDiffer}
use Rattle.sp_varsets.specs.Parts.{number_of, IsPart, IsInForm, IsInOther, IsInStatements, IsInArms}
use Rattle.sp_varsets.specs.AreSets.{HaveOwnNumbers}

-- a statement and those inside it, in the order of their numbers
abbrev mutual
  parts : Statement → List Statement
  parts (Does k at form) = Does k at form ∷ form_parts form

  form_parts : Form → List Statement
  form_parts (Sequence ss) = statements_parts ss
  form_parts (If e s o) = parts s ++ other_parts o
  form_parts (While e s) = parts s
  form_parts (Repeat s e) = parts s
  form_parts (For x at from down to s) = parts s
  form_parts (Case e choices) = arms_parts choices
  form_parts (Parallel ss) = statements_parts ss
  form_parts (Forall x from to s) = parts s
  form_parts form = []

  other_parts : ElsePart → List Statement
  other_parts NoElse = []
  other_parts (Else s) = parts s

  statements_parts : Statements → List Statement
  statements_parts NoStatement = []
  statements_parts (AndThen s rest) = parts s ++ statements_parts rest

  arms_parts : Arms → List Statement
  arms_parts NoArm = []
  arms_parts (Or (On cs s) rest) = parts s ++ arms_parts rest

two : (xs ys : List Statement) (ns ms : List ℕ) → map number_of xs ≡ ns → map number_of ys ≡ ms
    → map number_of (xs ++ ys) ≡ ns ++ ms
two xs ys ns ms p q = map-append number_of xs ys ∙ (ap (λ ns. ns ++ map number_of ys) p ∙ ap (λ ms. ns ++ ms) q)

mutual
  numbered : (s : Statement) → map number_of (parts s) ≡ statement_numbers s
  numbered (Does k at form) = ap (λ ns. k ∷ ns) (form_numbered form)

  form_numbered : (f : Form) → map number_of (form_parts f) ≡ form_numbers f
  form_numbered (Sequence ss) = statements_numbered ss
  form_numbered (If e s o) = two (parts s) (other_parts o) (statement_numbers s) (other_numbers o) (numbered s)
      (other_numbered o)
  form_numbered (While e s) = numbered s
  form_numbered (Repeat s e) = numbered s
  form_numbered (For x at from down to s) = numbered s
  form_numbered (Case e choices) = arms_numbered choices
  form_numbered (Parallel ss) = statements_numbered ss
  form_numbered (Forall x from to s) = numbered s
  form_numbered form = refl

  other_numbered : (o : ElsePart) → map number_of (other_parts o) ≡ other_numbers o
  other_numbered NoElse = refl
  other_numbered (Else s) = numbered s

  statements_numbered : (ss : Statements) → map number_of (statements_parts ss) ≡ statements_numbers ss
  statements_numbered NoStatement = refl
  statements_numbered (AndThen s rest) = two (parts s) (statements_parts rest) (statement_numbers s)
      (statements_numbers rest) (numbered s) (statements_numbered rest)

  arms_numbered : (xs : Arms) → map number_of (arms_parts xs) ≡ arms_numbers xs
  arms_numbered NoArm = refl
  arms_numbered (Or (On cs s) rest) = two (parts s) (arms_parts rest) (statement_numbers s) (arms_numbers rest)
      (numbered s) (arms_numbered rest)

abbrev In : Statement → List Statement → Type 0
In t [] = ⊥
In t (x ∷ xs) = (t ≡ x) ⊎ In t xs

in_first : (t : Statement) (xs ys : List Statement) → In t xs → In t (xs ++ ys)
in_first t [] ys h = absurd h
in_first t (x ∷ xs) ys (inl e) = inl e
in_first t (x ∷ xs) ys (inr h) = inr (in_first t xs ys h)

in_second : (t : Statement) (xs ys : List Statement) → In t ys → In t (xs ++ ys)
in_second t [] ys h = h
in_second t (x ∷ xs) ys h = inr (in_second t xs ys h)

module _ (t : Statement) where
  mutual
    part_in : (s : Statement) → IsPart t s → In t (parts s)
    part_in (Does k at form) (inl e) = inl e
    part_in (Does k at form) (inr h) = inr (form_in form h)

    form_in : (f : Form) → IsInForm t f → In t (form_parts f)
    form_in (Sequence ss) h = statements_in ss h
    form_in (If e s o) (inl h) = in_first t (parts s) (other_parts o) (part_in s h)
    form_in (If e s o) (inr h) = in_second t (parts s) (other_parts o) (other_in o h)
    form_in (While e s) h = part_in s h
    form_in (Repeat s e) h = part_in s h
    form_in (For x at from down to s) h = part_in s h
    form_in (Case e choices) h = arms_in choices h
    form_in (Parallel ss) h = statements_in ss h
    form_in (Forall x from to s) h = part_in s h
    form_in form h = absurd h

    other_in : (o : ElsePart) → IsInOther t o → In t (other_parts o)
    other_in NoElse h = h
    other_in (Else s) h = part_in s h

    statements_in : (ss : Statements) → IsInStatements t ss → In t (statements_parts ss)
    statements_in NoStatement h = h
    statements_in (AndThen s rest) (inl h) = in_first t (parts s) (statements_parts rest) (part_in s h)
    statements_in (AndThen s rest) (inr h) = in_second t (parts s) (statements_parts rest) (statements_in rest h)

    arms_in : (xs : Arms) → IsInArms t xs → In t (arms_parts xs)
    arms_in NoArm h = h
    arms_in (Or (On cs s) rest) (inl h) = in_first t (parts s) (arms_parts rest) (part_in s h)
    arms_in (Or (On cs s) rest) (inr h) = in_second t (parts s) (arms_parts rest) (arms_in rest h)

-- of all blocks
abbrev all_parts : List Block → List Statement
all_parts [] = []
all_parts (b ∷ bs) = parts b.body ++ all_parts bs

all_numbered : (bs : List Block) → map number_of (all_parts bs) ≡ blocks_numbers bs
all_numbered [] = refl
all_numbered (b ∷ bs) = two (parts b.body) (all_parts bs) (statement_numbers b.body) (blocks_numbers bs)
    (numbered b.body) (all_numbered bs)

in_all : (t : Statement) (bs : List Block) (b : ℕ) (k : Block) → slice_get bs b ≡ Some k → IsPart t k.body
    → In t (all_parts bs)
in_all t [] b k e h = absurd (cc e)
in_all t (x ∷ xs) zero k e h = in_first t (parts x.body) (all_parts xs)
    (part_in t x.body (subst (λ (z : Block). IsPart t z.body) (let same : k ≡ x = cc e in same) h))
in_all t (x ∷ xs) (suc b) k e h = in_second t (parts x.body) (all_parts xs) (in_all t xs b k e h)

differs : (n : ℕ) (xs : List Statement) (t : Statement) → DiffersFrom n (map number_of xs) → In t xs → n ≢ number_of t
differs n [] t d h = absurd h
differs n (x ∷ xs) t d (inl e) = λ same. d.0 (same ∙ ap number_of e)
differs n (x ∷ xs) t d (inr h) = differs n xs t d.1 h

one : (xs : List Statement) (s t : Statement) → AllDiffer (map number_of xs) → In s xs → In t xs
    → number_of s ≡ number_of t → s ≡ t
one [] s t d h k e = absurd h
one (x ∷ xs) s t d (inl p) (inl q) e = p ∙ sym q
one (x ∷ xs) s t d (inl p) (inr k) e = absurd (differs (number_of x) xs t d.0 k (sym (ap number_of p) ∙ e))
one (x ∷ xs) s t d (inr h) (inl q) e = absurd (differs (number_of x) xs s d.0 h (sym (ap number_of q) ∙ sym e))
one (x ∷ xs) s t d (inr h) (inr k) e = one xs s t d.1 h k e

pub own_numbers : (c : Program) → AllDiffer (blocks_numbers c.blocks) → HaveOwnNumbers c
own_numbers c d b e k m p q s t h i same = one (all_parts c.blocks) s t
    (subst AllDiffer (sym (all_numbered c.blocks)) d) (in_all s c.blocks b k p h) (in_all t c.blocks e m q i) same
