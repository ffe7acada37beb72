-- The numbers of a statement's tree are those from its own up to the one behind it, in this order; so blocks whose
-- statement parts stand at different places have different numbers.
use Rattle.std.proofs.Common.{◌≡◌, refl, ap, sym, subst, ◌∙◌, ℕ, zero, suc, ◌+◌, ◌<◌, ◌≤◌, List, [], ◌∷◌, ◌++◌, Bool}
use Rattle.std.proofs.Common.{true, false, ◌⊎◌, inl, inr, arith}
use Rattle.std.specs.Prelude.{◌≢◌, if◌then◌else◌, Option, Some, None}
use Rattle.std.specs.Bool.{Decides}
use Rattle.std.proofs.lemmas.Bool.Decides.{Decides-or, Decides-and, Decides-ltb, Decides-eqb}
use Rattle.sp_base.specs.declared.place.Place.{Place}
use Rattle.sp_base.proofs.Facts.{less_same_or_more}
use Rattle.sp_tree.specs.declared.meaning.StandardProcedure.{StandardProcedure}
use Rattle.sp_tree.specs.declared.meaning.StandardProcedure.TheVariants as procedure
use Rattle.sp_tree.specs.PlainNamed.{Expression, ExpressionAt, Quoted, Read}
use Rattle.sp_tree.specs.PlainNamed.{Pass, Arguments, NoArgument, AndArgument, Statement, Does, Form}
use Rattle.sp_tree.specs.PlainNamed.{Perform, Sequence, If, While, Repeat, Case, For, Parallel, Forall}
use Rattle.sp_tree.specs.PlainNamed.{ElsePart, NoElse, Else, Statements, NoStatement, AndThen, On, Arms, NoArm, Or}
use Rattle.sp_tree.specs.PlainNamed.{Branches, NoBranch, Beside, Block, Program}
use Rattle.sp_tree.specs.PlainChecked as c
use Rattle.sp_tree.specs.CheckedOf as of_
use Rattle.sp_tree.proofs.Earlier.{Earlier, earlier_then, not_earlier}
use Rattle.sp_types.specs.declared.tables.Ordinal.{Ordinal}
use Rattle.sp_types.specs.Tables.{Env, char_of, with_next_number, with_index_type, env_of}
use Rattle.sp_types.specs.Kinds.{expression_kind}
use Rattle.sp_types.specs.TypeWalk.{count, single_count, parts_count, statement_after, form_after, other_after}
use Rattle.sp_types.specs.TypeWalk.{statements_after, arms_after, branches_after, statement_counted, form_counted}
use Rattle.sp_types.specs.TypeWalk.{other_counted, statements_counted, arms_counted, branches_counted, statement_place}
use Rattle.sp_types.specs.TypeWalk.{bodies, is_earlier, count_before, starts_from, with_first_number}
use Rattle.sp_types.specs.CheckedTree.{write_form, write_value_form, write_text_form, reads, writes, opens, sends}
use Rattle.sp_types.specs.CheckedTree.{receives}
use Rattle.sp_types.specs.CheckedTree.{singles, argument_variable, checked_argument, checked_width, expanded_form}
use Rattle.sp_types.specs.CheckedTree.{numbered_statements}
use Rattle.sp_types.specs.CheckedTree.{checked_statement, checked_statement_form, checked_other, checked_statements}
use Rattle.sp_types.specs.CheckedTree.{checked_arms, checked_branches, checked_blocks, program_checked}
use Rattle.sp_types.specs.StatementNumbers.{statement_numbers, form_numbers, other_numbers, statements_numbers}
use Rattle.sp_types.specs.StatementNumbers.{arms_numbers, blocks_numbers, body_places, DiffersFrom, AllDiffer}
use Rattle.sp_types.proofs.NextNumbers.{statement_next}

-- ---- one number after the other

-- these are all numbers from a up to b
abbrev Rise : ℕ → List ℕ → ℕ → Type 0
Rise a [] b = a ≡ b
Rise a (x ∷ xs) b = (x ≡ a) × Rise (a + 1) xs b

joined : (a b d : ℕ) (xs ys : List ℕ) → Rise a xs b → Rise b ys d → Rise a (xs ++ ys) d
joined a b d [] ys h g = subst (λ k. Rise k ys d) (sym h) g
joined a b d (x ∷ xs) ys h g = (h.0, joined (a + 1) b d xs ys h.1 g)

-- ---- the single statements of a call

-- statements without others in them
abbrev AreSingle : List c.Form → Type 0
AreSingle [] = Unit {0}
AreSingle (f ∷ fs) = (form_numbers f ≡ []) × AreSingle fs

abbrev sized : List c.Form → ℕ
sized [] = 0
sized (f ∷ fs) = suc (sized fs)

text_single : (at : Place) (t : List ℕ) (o : Option Ordinal) (w : Option c.Expression)
    → form_numbers (write_text_form at t o w) ≡ []
text_single at t None w = refl
text_single at t (Some o) w = refl

written_single : (env : Env) (e : Expression) (w : Option c.Expression) → form_numbers (write_value_form env e w) ≡ []
written_single env (ExpressionAt at (Quoted t)) w = text_single at t (char_of t) w
written_single _ _ _ = refl

-- so many, all of them single
abbrev Are : List c.Form → ℕ → Type 0
Are fs n = AreSingle fs × (sized fs ≡ n)

one_more : (f : c.Form) (fs : List c.Form) (n : ℕ) → form_numbers f ≡ [] → Are fs n → Are (f ∷ fs) (suc n)
one_more f fs n e h = ((e, h.0), ap suc h.1)

reads_are : (env : Env) (xs : Arguments) → Are (reads env xs) (count xs)
reads_are env NoArgument = (tt, refl)
reads_are env (AndArgument a rest) = one_more (c.ReadValue (argument_variable env a)) _ _ refl (reads_are env rest)

writes_are : (env : Env) (xs : Arguments) → Are (writes env xs) (count xs)
writes_are env NoArgument = (tt, refl)
writes_are env (AndArgument (Pass e w) rest) =
    one_more (write_form env (Pass e w)) _ _ (written_single env e (checked_width env w)) (writes_are env rest)

opens_are : (env : Env) (xs : Arguments) → Are (opens env xs) (count xs)
opens_are env NoArgument = (tt, refl)
opens_are env (AndArgument a rest) = one_more (c.Open (argument_variable env a)) _ _ refl (opens_are env rest)

sends_are : (env : Env) (e : c.Expression) (xs : Arguments) → Are (sends env e xs) (count xs)
sends_are env e NoArgument = (tt, refl)
sends_are env e (AndArgument a rest) = one_more (c.Send e (checked_argument env a)) _ _ refl (sends_are env e rest)

receives_are : (env : Env) (e : c.Expression) (xs : Arguments) → Are (receives env e xs) (count xs)
receives_are env e NoArgument = (tt, refl)
receives_are env e (AndArgument a rest) = one_more (c.Receive e (argument_variable env a)) _ _ refl
    (receives_are env e rest)

with_last : (fs : List c.Form) (f : c.Form) (n : ℕ) → form_numbers f ≡ [] → Are fs n → Are (fs ++ f ∷ []) (n + 1)
with_last [] f n e h = let l = h.1 in ((e, tt), omega (arith, l))
with_last (x ∷ fs) f n e h =
    let ((none, others), l) = h in
    let r : Are (fs ++ f ∷ []) (sized fs + 1) = with_last fs f (sized fs) e (others, refl) in
    let k = r.1 in
    ((none, r.0), omega (arith, k, l))

singles_are : (env : Env) (p : StandardProcedure) (xs : Arguments) → Are (singles env p xs) (single_count p xs)
singles_are env procedure.Read xs = reads_are env xs
singles_are env procedure.Readln xs = with_last (reads env xs) c.ReadLine (count xs) refl (reads_are env xs)
singles_are env procedure.Write xs = writes_are env xs
singles_are env procedure.Writeln xs = with_last (writes env xs) c.WriteLine (count xs) refl (writes_are env xs)
singles_are env procedure.Open xs = opens_are env xs
singles_are env procedure.Send NoArgument = (tt, refl)
singles_are env procedure.Send (AndArgument a rest) = sends_are env (checked_argument env a) rest
singles_are env procedure.Receive NoArgument = (tt, refl)
singles_are env procedure.Receive (AndArgument a rest) = receives_are env (checked_argument env a) rest

single_numbers : (n k : ℕ) (at : Place) (fs : List c.Form) → Are fs k
    → Rise n (statements_numbers (of_.statements (numbered_statements n at fs))) (n + k)
single_numbers n k at [] h = omega (arith, h.1)
single_numbers n zero at (f ∷ fs) h = absurd (omega (arith, h.1))
single_numbers n (suc k) at (f ∷ fs) h =
    let ((none, others), l) = h in
    let rest : Rise (n + 1) (statements_numbers (of_.statements (numbered_statements (n + 1) at fs))) (n + 1 + k) =
    single_numbers (n + 1) k at fs (others, omega (arith, l)) in (
      refl,
      subst (λ m. Rise (n + 1) (m ++ statements_numbers (of_.statements (numbered_statements (n + 1) at fs)))
          (n + suc k))
          (sym none) (subst (Rise (n + 1) (statements_numbers (of_.statements (numbered_statements (n + 1) at fs))))
          (omega arith)
          rest),
    )

expanded_numbers : (n k : ℕ) (at : Place) (fs : List c.Form) → Are fs k
    → Rise n (form_numbers (expanded_form n at fs)) (n + parts_count k)
expanded_numbers n zero at [] h = omega arith
expanded_numbers n (suc k) at [] h = absurd (omega (arith, h.1))
expanded_numbers n zero at (f ∷ fs) h = absurd (omega (arith, h.1))
expanded_numbers n (suc zero) at (f ∷ []) h =
    let ((none, others), l) = h in subst (λ m. Rise n m (n + 0)) (sym none) (omega arith)
expanded_numbers n (suc zero) at (f ∷ g ∷ fs) h = absurd (omega (arith, h.1))
expanded_numbers n (suc (suc k)) at (f ∷ []) h = absurd (omega (arith, h.1))
expanded_numbers n (suc (suc k)) at (f ∷ g ∷ fs) h = single_numbers n (suc (suc k)) at (f ∷ g ∷ fs) h

-- ---- statements

mutual
  statement_rise : (env : Env) (s : Statement)
      → Rise env.next (statement_numbers (checked_statement env s)) (statement_after env s).next
  statement_rise env (Does at form) = (refl, form_rise (with_next_number env) at form)

  form_rise : (env : Env) (at : Place) (s : Form)
      → Rise env.next (form_numbers (checked_statement_form env at s)) (form_after env s).next
  form_rise env at (Perform p args) = expanded_numbers env.next (single_count p args) at (singles env p args)
      (singles_are env p args)
  form_rise env at (Sequence ss) = statements_rise env ss
  form_rise env at (If e s o) = joined _ _ _ _ _ (statement_rise env s) (other_rise (statement_after env s) o)
  form_rise env at (While e s) = statement_rise env s
  form_rise env at (Repeat ss e) = (refl, statements_rise (with_next_number env) ss)
  form_rise env at (Case e choices) = arms_rise env choices
  form_rise env at (For x name from down to s) = statement_rise env s
  form_rise env at (Parallel bs) = branches_rise env at bs
  form_rise env at (Forall x from to s) = statement_rise (with_index_type env x (expression_kind env from)) s
  form_rise _ _ _ = refl

  other_rise : (env : Env) (o : ElsePart) → Rise env.next (other_numbers (checked_other env o)) (other_after env o).next
  other_rise env NoElse = refl
  other_rise env (Else s) = statement_rise env s

  statements_rise : (env : Env) (ss : Statements)
      → Rise env.next (statements_numbers (of_.statements (checked_statements env ss))) (statements_after env ss).next
  statements_rise env NoStatement = refl
  statements_rise env (AndThen s rest) = joined _ _ _ _ _ (statement_rise env s)
      (statements_rise (statement_after env s) rest)

  arms_rise : (env : Env) (xs : Arms) → Rise env.next (arms_numbers (of_.arms (checked_arms env xs)))
      (arms_after env xs).next
  arms_rise env NoArm = refl
  arms_rise env (Or (On cs s) rest) = joined _ _ _ _ _ (statement_rise env s) (arms_rise (statement_after env s) rest)

  branches_rise : (env : Env) (at : Place) (bs : Branches)
      → Rise env.next (statements_numbers (of_.statements (checked_branches env at bs))) (branches_after env bs).next
  branches_rise env at NoBranch = refl
  branches_rise env at (Beside ss rest) = (
    refl,
    joined _ _ _ _ _ (statements_rise (with_next_number env) ss)
        (branches_rise (statements_after (with_next_number env) ss) at rest),
  )

-- counting goes on from where it begins
next_on : (k j : ℕ) → k + j + 1 ≡ k + (j + 1)
next_on k j = omega arith

mutual
  statement_on : (k j : ℕ) (s : Statement) → statement_counted (k + j) s ≡ k + statement_counted j s
  statement_on k j (Does at form) = ap (λ (m : ℕ). form_counted m form) (next_on k j) ∙ form_on k (j + 1) form

  form_on : (k j : ℕ) (s : Form) → form_counted (k + j) s ≡ k + form_counted j s
  form_on k j (Perform p args) = omega arith
  form_on k j (Sequence ss) = statements_on k j ss
  form_on k j (If e s o) = ap (λ (m : ℕ). other_counted m o) (statement_on k j s) ∙ other_on k (statement_counted j s) o
  form_on k j (While e s) = statement_on k j s
  form_on k j (Repeat ss e) = ap (λ (m : ℕ). statements_counted m ss) (next_on k j) ∙ statements_on k (j + 1) ss
  form_on k j (Case e choices) = arms_on k j choices
  form_on k j (For x at from down to s) = statement_on k j s
  form_on k j (Parallel bs) = branches_on k j bs
  form_on k j (Forall x from to s) = statement_on k j s
  form_on _ _ _ = refl

  other_on : (k j : ℕ) (o : ElsePart) → other_counted (k + j) o ≡ k + other_counted j o
  other_on k j NoElse = refl
  other_on k j (Else s) = statement_on k j s

  statements_on : (k j : ℕ) (ss : Statements) → statements_counted (k + j) ss ≡ k + statements_counted j ss
  statements_on k j NoStatement = refl
  statements_on k j (AndThen s rest) = ap (λ (m : ℕ). statements_counted m rest) (statement_on k j s)
      ∙ statements_on k (statement_counted j s) rest

  arms_on : (k j : ℕ) (xs : Arms) → arms_counted (k + j) xs ≡ k + arms_counted j xs
  arms_on k j NoArm = refl
  arms_on k j (Or (On cs s) rest) = ap (λ (m : ℕ). arms_counted m rest) (statement_on k j s)
      ∙ arms_on k (statement_counted j s) rest

  branches_on : (k j : ℕ) (bs : Branches) → branches_counted (k + j) bs ≡ k + branches_counted j bs
  branches_on k j NoBranch = refl
  branches_on k j (Beside ss rest) = ap (λ (m : ℕ). branches_counted (statements_counted m ss) rest) (next_on k j)
      ∙ ap (λ (m : ℕ). branches_counted m rest) (statements_on k (j + 1) ss)
      ∙ branches_on k (statements_counted (j + 1) ss) rest

-- ---- numbers of two parts

-- all of them are at least a and below b
abbrev AllBetween : ℕ → ℕ → List ℕ → Type 0
AllBetween a b [] = Unit {0}
AllBetween a b (x ∷ xs) = (a ≤ x) × (x < b) × AllBetween a b xs

-- none of them is
abbrev NoneBetween : ℕ → ℕ → List ℕ → Type 0
NoneBetween a b [] = Unit {0}
NoneBetween a b (x ∷ xs) = ((x < a) ⊎ (b ≤ x)) × NoneBetween a b xs

no_more : (a b : ℕ) (xs : List ℕ) → Rise a xs b → a ≤ b
no_more a b [] h = omega (arith, h)
no_more a b (x ∷ xs) h = let l = no_more (a + 1) b xs h.1 in omega (arith, l)

widened : (a b : ℕ) (xs : List ℕ) → AllBetween (a + 1) b xs → AllBetween a b xs
widened a b [] h = tt
widened a b (x ∷ xs) h = (omega (arith, h.0), h.1, widened a b xs h.2)

within : (a b : ℕ) (xs : List ℕ) → Rise a xs b → AllBetween a b xs
within a b [] h = tt
within a b (x ∷ xs) h = let l = no_more (a + 1) b xs h.1 in
    (omega (arith, h.0), omega (arith, h.0, l), widened a b xs (within (a + 1) b xs h.1))

-- numbers above one differ from it
above : (a b x : ℕ) (xs : List ℕ) → x < a → AllBetween a b xs → DiffersFrom x xs
above a b x [] l h = tt
above a b x (y ∷ ys) l h = (λ e. absurd (omega (arith, e, l, h.0)), above a b x ys l h.2)

rising_differ : (a b : ℕ) (xs : List ℕ) → Rise a xs b → AllDiffer xs
rising_differ a b [] h = tt
rising_differ a b (x ∷ xs) h = (
  above (a + 1) b x xs (omega (arith, h.0)) (within (a + 1) b xs h.1),
  rising_differ (a + 1) b xs h.1,
)

outside : (a b x : ℕ) (xs : List ℕ) → a ≤ x → x < b → NoneBetween a b xs → DiffersFrom x xs
outside a b x [] l g h = tt
outside a b x (y ∷ ys) l g h = (one h.0, outside a b x ys l g h.1)
  where
    one : (y < a) ⊎ (b ≤ y) → x ≢ y
    one (inl d) e = absurd (omega (arith, e, l, d))
    one (inr d) e = absurd (omega (arith, e, g, d))

pub differs_both : (x : ℕ) (xs ys : List ℕ) → DiffersFrom x xs → DiffersFrom x ys → DiffersFrom x (xs ++ ys)
differs_both x [] ys h g = g
differs_both x (z ∷ xs) ys h g = (h.0, differs_both x xs ys h.1 g)

all_differ_both : (a b : ℕ) (xs ys : List ℕ) → AllBetween a b xs → AllDiffer xs → NoneBetween a b ys → AllDiffer ys
    → AllDiffer (xs ++ ys)
all_differ_both a b [] ys w h o g = g
all_differ_both a b (x ∷ xs) ys w h o g = (
  differs_both x xs ys h.0 (outside a b x ys w.0 w.1 o),
  all_differ_both a b xs ys w.2 h.1 o g,
)

without_both : (a b : ℕ) (xs ys : List ℕ) → NoneBetween a b xs → NoneBetween a b ys → NoneBetween a b (xs ++ ys)
without_both a b [] ys h g = g
without_both a b (x ∷ xs) ys h g = (h.0, without_both a b xs ys h.1 g)

-- numbers of one part are none of another that lies below or above
apart : (a b d e : ℕ) (xs : List ℕ) → (e ≤ a) ⊎ (b ≤ d) → AllBetween d e xs → NoneBetween a b xs
apart a b d e [] o h = tt
apart a b d e (x ∷ xs) o h = (one o, apart a b d e xs o h.2)
  where
    one : (e ≤ a) ⊎ (b ≤ d) → (x < a) ⊎ (b ≤ x)
    one (inl l) = inl (omega (arith, l, h.1))
    one (inr l) = inr (omega (arith, l, h.0))

-- ---- the order of places

tells : (p q : Place) → Decides (is_earlier p q) (Earlier p q)
tells p q = Decides-or _ _ (Decides-ltb p.line q.line)
    (Decides-and _ _ (Decides-eqb p.line q.line) (Decides-ltb p.column q.column))

ordered : (p q : Place) → p ≢ q → Earlier p q ⊎ Earlier q p
ordered p q d = by (less_same_or_more p.line q.line) (less_same_or_more p.column q.column)
  where
    same : p.line ≡ q.line → p.column ≡ q.column → p ≡ q
    same e f = λ i. record { line = e i; column = f i }

    by : (p.line < q.line) ⊎ ((p.line ≡ q.line) ⊎ (q.line < p.line)) → (p.column < q.column)
        ⊎ ((p.column ≡ q.column) ⊎ (q.column < p.column)) → Earlier p q ⊎ Earlier q p
    by (inl l) o = inl (inl l)
    by (inr (inr l)) o = inr (inl l)
    by (inr (inl e)) (inl l) = inl (inr (e, l))
    by (inr (inl e)) (inr (inr l)) = inr (inr (sym e, l))
    by (inr (inl e)) (inr (inl f)) = absurd (d (same e f))

-- ---- the statement parts of blocks

-- what a part counts before a place
abbrev share : Place → Place × ℕ → ℕ
share q b = if is_earlier b.0 q then b.1 else 0

abbrev shares : Place → List (Place × ℕ) → ℕ
shares q [] = 0
shares q (b ∷ bs) = share q b + shares q bs

counted_shares : (k : ℕ) (q : Place) (bs : List (Place × ℕ)) → count_before k q bs ≡ k + shares q bs
counted_shares k q [] = omega arith
counted_shares k q (b ∷ bs) = counted_shares (if is_earlier b.0 q then k + b.1 else k) q bs ∙ by (is_earlier b.0 q)
  where
    by : (t : Bool) → (if t then k + b.1 else k) + shares q bs ≡ k + ((if t then b.1 else 0) + shares q bs)
    by true = omega arith
    by false = omega arith

share_grows : (p q : Place) (b : Place × ℕ) → Earlier p q → share p b ≤ share q b
share_grows p q b l = by (is_earlier b.0 p) refl
  where
    by : (t : Bool) → is_earlier b.0 p ≡ t → (if t then b.1 else 0) ≤ share q b
    by true e = subst (λ t. b.1 ≤ (if t then b.1 else 0))
        (sym ((tells b.0 q).1 (earlier_then b.0 p q ((tells b.0 p).0 e) l))) (omega arith)
    by false e = omega arith

shares_grow : (p q : Place) (bs : List (Place × ℕ)) → Earlier p q → shares p bs ≤ shares q bs
shares_grow p q [] l = omega arith
shares_grow p q (b ∷ bs) l = let one = share_grows p q b l in let rest = shares_grow p q bs l in
    omega (arith, one, rest)

abbrev IsPart : Place × ℕ → List (Place × ℕ) → Type 0
IsPart x [] = ⊥
IsPart x (b ∷ bs) = (x ≡ b) ⊎ IsPart x bs

abbrev AreParts : List (Place × ℕ) → List (Place × ℕ) → Type 0
AreParts [] all = Unit {0}
AreParts (b ∷ bs) all = IsPart b all × AreParts bs all

parts_too : (bs all : List (Place × ℕ)) (x : Place × ℕ) → AreParts bs all → AreParts bs (x ∷ all)
parts_too [] all x h = tt
parts_too (b ∷ bs) all x h = (inr h.0, parts_too bs all x h.1)

own_parts : (bs : List (Place × ℕ)) → AreParts bs bs
own_parts [] = tt
own_parts (b ∷ bs) = (inl refl, parts_too bs bs b (own_parts bs))

own_share : (x : Place × ℕ) → share x.0 x ≡ 0
own_share x = by (is_earlier x.0 x.0) refl
  where
    by : (t : Bool) → is_earlier x.0 x.0 ≡ t → (if t then x.1 else 0) ≡ 0
    by true e = absurd (not_earlier x.0 ((tells x.0 x.0).0 e))
    by false e = refl

later_share : (x : Place × ℕ) (q : Place) → Earlier x.0 q → share q x ≡ x.1
later_share x q l = ap (λ (t : Bool). if t then x.1 else 0) ((tells x.0 q).1 l)

-- before a later place a part is counted whole
counts_whole : (x : Place × ℕ) (q : Place) (bs : List (Place × ℕ)) → IsPart x bs → Earlier x.0 q
    → shares x.0 bs + x.1 ≤ shares q bs
counts_whole x q [] h l = elim h [ ]
counts_whole x q (b ∷ bs) (inl e) l =
    let own = subst (λ z. share x.0 z ≡ 0) e (own_share x) in
    let whole = subst (λ z. share q z ≡ x.1) e (later_share x q l) in
    let rest = shares_grow x.0 q bs l in
    omega (arith, own, whole, rest)
counts_whole x q (b ∷ bs) (inr h) l =
    let one = share_grows x.0 q b l in
    let rest = counts_whole x q bs h l in
    omega (arith, one, rest)

module _ (all : List (Place × ℕ)) where
  -- the first number of the part at a place
  abbrev first_at : Place → ℕ
  first_at q = count_before 0 q all

  ends_before : (x : Place × ℕ) (q : Place) → IsPart x all → Earlier x.0 q → first_at x.0 + x.1 ≤ first_at q
  ends_before x q h l =
      let a = counted_shares 0 x.0 all in
      let b = counted_shares 0 q all in
      let whole = counts_whole x q all h l in
      omega (arith, a, b, whole)

  parts_apart : (x y : Place × ℕ) → IsPart x all → IsPart y all → x.0 ≢ y.0 → (first_at y.0 + y.1 ≤ first_at x.0)
      ⊎ (first_at x.0 + x.1 ≤ first_at y.0)
  parts_apart x y h g d = by (ordered x.0 y.0 d)
    where
      by : Earlier x.0 y.0 ⊎ Earlier y.0 x.0 → (first_at y.0 + y.1 ≤ first_at x.0) ⊎ (first_at x.0 + x.1 ≤ first_at y.0)
      by (inl l) = inr (ends_before x y.0 h l)
      by (inr l) = inl (ends_before y x.0 g l)

  abbrev part : Block → Place × ℕ
  part b = (statement_place b.body, statement_counted 0 b.body)

  block_rise : (env : Env) (b : Block) (k : ℕ)
      → Rise k (statement_numbers (checked_statement (with_first_number env k) b.body)) (k + statement_counted 0 b.body)
  block_rise env b k =
      let nothing : k ≡ k + 0 = omega arith in
      subst (Rise k (statement_numbers (checked_statement (with_first_number env k) b.body)))
      (statement_next (with_first_number env k) b.body ∙ ap (λ (m : ℕ). statement_counted m b.body) nothing
      ∙ statement_on k 0 b.body)
      (statement_rise (with_first_number env k) b.body)

  others_without : (env : Env) (x : Place × ℕ) (bs : List Block) → IsPart x all → AreParts (bodies bs) all
      → DiffersFrom x.0 (body_places bs) → NoneBetween (first_at x.0) (first_at x.0 + x.1)
      (blocks_numbers (checked_blocks env (starts_from all (bodies bs)) bs))
  others_without env x [] h g d = tt
  others_without env x (b ∷ bs) h g d =
      let k : ℕ = first_at (statement_place b.body) in
      without_both _ _ _ _
      (apart _ _ k (k + statement_counted 0 b.body) _ (parts_apart x (part b) h g.0 d.0)
      (within _ _ _ (block_rise env b k)))
      (others_without (statement_after (with_first_number env k) b.body) x bs h g.1 d.1)

  blocks_differ : (env : Env) (bs : List Block) → AreParts (bodies bs) all → AllDiffer (body_places bs)
      → AllDiffer (blocks_numbers (checked_blocks env (starts_from all (bodies bs)) bs))
  blocks_differ env [] g d = tt
  blocks_differ env (b ∷ bs) g d =
      let k : ℕ = first_at (statement_place b.body) in
      let rise = block_rise env b k in
      all_differ_both k (k + statement_counted 0 b.body) _ _ (within _ _ _ rise) (rising_differ _ _ _ rise)
      (others_without (statement_after (with_first_number env k) b.body) (part b) bs g.0 g.1 d.0)
      (blocks_differ (statement_after (with_first_number env k) b.body) bs g.1 d.1)

pub numbers_differ : (p : Program) → AllDiffer (body_places p.blocks)
    → AllDiffer (blocks_numbers (program_checked p).blocks)
numbers_differ p d = blocks_differ (bodies p.blocks) (env_of p) p.blocks (own_parts (bodies p.blocks)) d
