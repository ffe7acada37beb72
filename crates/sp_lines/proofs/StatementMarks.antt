-- The marks and the code of each statement in a program stand beside each other.
use Rattle.std.proofs.Common.{◌≡◌, ℕ, zero, suc, ◌+◌, List, [], ◌∷◌, ◌++◌, ◌∙◌, length, map, Some}
use Rattle.std.proofs.Common.{refl, sym, ap, subst, arith, length-append, append_assoc, append-nil, inl, inr}
use Rattle.std.proofs.lemmas.Option.{same_Some}
use Rattle.std.specs.Prelude.{slice_get, if◌then◌else◌}
use Rattle.sp_base.specs.declared.place.Place.{Place}
use Rattle.sp_tree.specs.PlainChecked.{Expression, Statement, Does, Form, Empty, Assign, Call, Sequence, If, While}
use Rattle.sp_tree.specs.PlainChecked.{Repeat, For, Case, Parallel, Forall, Assume, ReadValue, ReadLine, WriteValue}
use Rattle.sp_tree.specs.PlainChecked.{WriteText, WriteLine, Open, Send, Receive, NoElse, Else, Statements}
use Rattle.sp_tree.specs.PlainChecked.{NoStatement, AndThen, On, Arms, NoArm, Or, Block}
use Rattle.sp_tree.specs.Plain as plain
use Rattle.sp_tree.specs.Bare.{bare_expression, bare_statement, bare_statements, bare_arms, bare_block}
use Rattle.sp_code.specs.declared.instr.Instr.{Instr}
use Rattle.sp_code.specs.declared.instr.Instr.TheVariants as i
use Rattle.sp_code.specs.Scopes.{Scope, OfIndex, scopes_of, slot}
use Rattle.sp_code.specs.Places.{after_value, after_tests, after_statement, after_children, after_arms, after_block}
use Rattle.sp_code.specs.TreeCode.{value_code, tests_code, code, code_all, code_children, code_arms, tables_in}
use Rattle.sp_code.specs.TreeCode.{texts_in}
use Rattle.sp_code.specs.TreeCode.{end_instr, block_code, blocks_code}
use Rattle.sp_code.proofs.Counts as counts
use Rattle.sp_lines.specs.declared.mark.Mark.{Mark}
use Rattle.sp_lines.specs.Marks.{own, value_marks, tests_marks, statement_marks, all_marks, child_marks}
use Rattle.sp_lines.specs.Marks.{children_marks, arm_marks, arms_marks, block_marks, blocks_marks}
use Rattle.sp_lines.specs.Beside.{IsIn, IsInForm, IsInAll, IsInArms, HasBeside}
use Rattle.sp_lines.proofs.Lengths as marked

module _ (p : plain.Program) (u : Statement) where
  -- more before
  before : (a : List Mark) (x : List Instr) {m : List Mark} {c : List Instr} → length a ≡ length x
      → HasBeside p u m c → HasBeside p u (a ++ m) (x ++ c)
  before a x e h = record {
    scopes = h.scopes;
    table = h.table;
    text = h.text;
    place = h.place;
    marks_before = a ++ h.marks_before;
    marks_after = h.marks_after;
    code_before = x ++ h.code_before;
    code_after = h.code_after;
    its_marks = ap (λ (ms : List Mark). a ++ ms) h.its_marks
        ∙ sym (append_assoc a h.marks_before (statement_marks p.kinds u ++ h.marks_after));
    its_code = ap (λ (cs : List Instr). x ++ cs) h.its_code
        ∙ sym (append_assoc x h.code_before
        (code p h.scopes h.table h.text h.place (bare_statement u) ++ h.code_after));
    as_many = omega (arith, e, h.as_many, length-append a h.marks_before, length-append x h.code_before);
  }

  -- more marks behind, and more code behind
  marks_behind : (b : List Mark) {m : List Mark} {c : List Instr} → HasBeside p u m c → HasBeside p u (m ++ b) c
  marks_behind b h = record {
    scopes = h.scopes;
    table = h.table;
    text = h.text;
    place = h.place;
    marks_before = h.marks_before;
    marks_after = h.marks_after ++ b;
    code_before = h.code_before;
    code_after = h.code_after;
    its_marks = ap (λ (ms : List Mark). ms ++ b) h.its_marks
        ∙ append_assoc h.marks_before (statement_marks p.kinds u ++ h.marks_after) b
        ∙ ap (λ (ms : List Mark). h.marks_before ++ ms) (append_assoc (statement_marks p.kinds u) h.marks_after b);
    its_code = h.its_code;
    as_many = h.as_many;
  }

  code_behind : (y : List Instr) {m : List Mark} {c : List Instr} → HasBeside p u m c → HasBeside p u m (c ++ y)
  code_behind y h = record {
    scopes = h.scopes;
    table = h.table;
    text = h.text;
    place = h.place;
    marks_before = h.marks_before;
    marks_after = h.marks_after;
    code_before = h.code_before;
    code_after = h.code_after ++ y;
    its_marks = h.its_marks;
    its_code = ap (λ (cs : List Instr). cs ++ y) h.its_code
        ∙ append_assoc h.code_before (code p h.scopes h.table h.text h.place (bare_statement u) ++ h.code_after) y
        ∙ ap (λ (cs : List Instr). h.code_before ++ cs)
        (append_assoc (code p h.scopes h.table h.text h.place (bare_statement u)) h.code_after y);
    as_many = h.as_many;
  }

  -- the same lists
  of_code : {m : List Mark} {c d : List Instr} → d ≡ c → HasBeside p u m c → HasBeside p u m d
  of_code e h = record {
    scopes = h.scopes;
    table = h.table;
    text = h.text;
    place = h.place;
    marks_before = h.marks_before;
    marks_after = h.marks_after;
    code_before = h.code_before;
    code_after = h.code_after;
    its_marks = h.its_marks;
    its_code = e ∙ h.its_code;
    as_many = h.as_many;
  }

  of_marks : {m l : List Mark} {c : List Instr} → l ≡ m → HasBeside p u m c → HasBeside p u l c
  of_marks e h = record {
    scopes = h.scopes;
    table = h.table;
    text = h.text;
    place = h.place;
    marks_before = h.marks_before;
    marks_after = h.marks_after;
    code_before = h.code_before;
    code_after = h.code_after;
    its_marks = e ∙ h.its_marks;
    its_code = h.its_code;
    as_many = h.as_many;
  }

  -- itself
  itself : (sc : List Scope) (t n q : ℕ)
      → HasBeside p u (statement_marks p.kinds u) (code p sc t n q (bare_statement u))
  itself sc t n q = record {
    scopes = sc;
    table = t;
    text = n;
    place = q;
    marks_before = [];
    marks_after = [];
    code_before = [];
    code_after = [];
    its_marks = sym (append-nil (statement_marks p.kinds u));
    its_code = sym (append-nil (code p sc t n q (bare_statement u)));
    as_many = refl;
  }

  values : (s : Place) (sc : List Scope) (e : Expression)
      → length (value_marks s e) ≡ length (value_code p sc (bare_expression e))
  values s sc e = marked.value_count s e ∙ sym (counts.value_count p sc (bare_expression e))

  bodies : (sc : List Scope) (t n q : ℕ) (a : Statement)
      → length (statement_marks p.kinds a) ≡ length (code p sc t n q (bare_statement a))
  bodies sc t n q a = marked.statement_count p a ∙ sym (counts.code_count p sc t n q (bare_statement a))

  -- one more behind each
  and_one : (xs : List Mark) (ys : List Instr) (m : Mark) (x : Instr) → length xs ≡ length ys
      → length (xs ++ m ∷ []) ≡ length (ys ++ x ∷ [])
  and_one xs ys m x e = omega (arith, e, length-append xs (m ∷ []), length-append ys (x ∷ []))

  same_stands : (sc : List Scope) (t n q k : ℕ) (at : Place) (form : Form) → u ≡ Does k at form
      → HasBeside p u (statement_marks p.kinds (Does k at form)) (code p sc t n q (bare_statement (Does k at form)))
  same_stands sc t n q k at form e = of_marks (ap (λ a. statement_marks p.kinds a) (sym e))
      (of_code (ap (λ a. code p sc t n q (bare_statement a)) (sym e)) (itself sc t n q))

  mutual
    pub stands : (sc : List Scope) (t n q : ℕ) (a : Statement) → IsIn u a
        → HasBeside p u (statement_marks p.kinds a) (code p sc t n q (bare_statement a))
    stands sc t n q (Does k at form) (inl e) = same_stands sc t n q k at form e
    stands sc t n q (Does k at form) (inr h) = form_stands sc t n q k at form h

    form_stands : (sc : List Scope) (t n q k : ℕ) (s : Place) (form : Form) → IsInForm u form
        → HasBeside p u (statement_marks p.kinds (Does k s form)) (code p sc t n q (bare_statement (Does k s form)))
    form_stands sc t n q k s Empty h = absurd h
    form_stands sc t n q k s (Assign v e) h = absurd h
    form_stands sc t n q k s (Call f args) h = absurd h
    form_stands sc t n q k s (Sequence ss) h = all_stands sc t n q ss h
    form_stands sc t n q k s (If e a NoElse) (inl h) =
        let w = after_value q (bare_expression e) in
        before (value_marks s e) (value_code p sc (bare_expression e)) (values s sc e)
        (before (own s ∷ []) (i.Jumpf (after_statement p (w + 1) (bare_statement a)) ∷ []) refl
        (marks_behind [] (stands sc t n (w + 1) a h)))
    form_stands sc t n q k s (If e a NoElse) (inr h) = absurd h
    form_stands sc t n q k s (If e a (Else b)) (inl h) =
        let w = after_value q (bare_expression e) in
        let j = after_statement p (w + 1) (bare_statement a) in
        before (value_marks s e) (value_code p sc (bare_expression e)) (values s sc e)
        (before (own s ∷ []) (i.Jumpf (j + 1) ∷ []) refl
        (marks_behind (own s ∷ statement_marks p.kinds b)
        (code_behind (i.Jump (after_statement p (j + 1) (bare_statement b))
        ∷ code p sc (t + tables_in (bare_statement a)) (n + texts_in (bare_statement a)) (j + 1) (bare_statement b))
        (stands sc t n (w + 1) a h))))
    form_stands sc t n q k s (If e a (Else b)) (inr h) =
        let w = after_value q (bare_expression e) in
        let j = after_statement p (w + 1) (bare_statement a) in
        before (value_marks s e) (value_code p sc (bare_expression e)) (values s sc e)
        (before (own s ∷ []) (i.Jumpf (j + 1) ∷ []) refl
        (before (statement_marks p.kinds a) (code p sc t n (w + 1) (bare_statement a)) (bodies sc t n (w + 1) a)
        (before (own s ∷ []) (i.Jump (after_statement p (j + 1) (bare_statement b)) ∷ []) refl
        (stands sc (t + tables_in (bare_statement a)) (n + texts_in (bare_statement a)) (j + 1) b h))))
    form_stands sc t n q k s (While e a) h =
        let w = after_value q (bare_expression e) in
        let j = after_statement p (w + 1 + 1) (bare_statement a) in
        before (value_marks s e) (value_code p sc (bare_expression e)) (values s sc e)
        (before (own s ∷ own s ∷ []) (i.Jumpf (j + 1) ∷ i.Tick ∷ []) refl
        (marks_behind (own s ∷ []) (code_behind (i.Jump q ∷ []) (stands sc t n (w + 1 + 1) a h))))
    form_stands sc t n q k s (Repeat a e) h =
        before (own s ∷ []) (i.Tick ∷ []) refl
        (marks_behind (value_marks s e ++ own s ∷ [])
        (code_behind (value_code p sc (bare_expression e) ++ i.Jumpf q ∷ []) (stands sc t n (q + 1) a h)))
    form_stands sc t n q k s (For x name from down to a) h =
        let w = after_value (after_value q (bare_expression from)) (bare_expression to) in
        let j = after_statement p (w + 1 + 1) (bare_statement a) in
        before (value_marks s from) (value_code p sc (bare_expression from)) (values s sc from)
        (before (value_marks s to) (value_code p sc (bare_expression to)) (values s sc to)
        (before (own s ∷ own s ∷ [])
        ((if down then i.Fordown (slot p x) (j + 1) else i.Forup (slot p x) (j + 1)) ∷ i.Tick ∷ []) refl
        (marks_behind (own s ∷ [])
        (code_behind ((if down then i.Nextdown (slot p x) (w + 1) else i.Nextup (slot p x) (w + 1)) ∷ [])
        (stands sc t n (w + 1 + 1) a h)))))
    form_stands sc t n q k s (Case e arms) h =
        let w = after_value q (bare_expression e) in
        let b = after_tests w (bare_arms arms) in
        before (value_marks s e) (value_code p sc (bare_expression e)) (values s sc e)
        (before (tests_marks (own s) arms) (tests_code p (bare_arms arms) (b + 1))
        (marked.tests_count (own s) arms ∙ sym (counts.tests_count p (bare_arms arms) (b + 1)))
        (before (own s ∷ []) (i.Nocase ∷ []) refl
        (arms_stand sc t n (b + 1) s arms (after_arms p (b + 1) (bare_arms arms)) h)))
    form_stands sc t n q k s (Parallel ss) h =
        before (own s ∷ own s ∷ []) (i.Fork t ∷ i.Jump (after_children p (q + 1 + 1) (bare_statements ss)) ∷ []) refl
        (children_stand sc (t + 1) n (q + 1 + 1) ss h)
    form_stands sc t n q k s (Forall x from to (Does l at form)) h =
        let w = after_value (after_value q (bare_expression from)) (bare_expression to) in
        before (value_marks s from) (value_code p sc (bare_expression from)) (values s sc from)
        (before (value_marks s to) (value_code p sc (bare_expression to)) (values s sc to)
        (before (own s ∷ own s ∷ [])
        (i.Forall t ∷ i.Jump (after_statement p (w + 1 + 1) (bare_statement (Does l at form)) + 1) ∷ []) refl
        (marks_behind (own at ∷ [])
        (code_behind (i.End ∷ []) (stands (OfIndex x ∷ sc) (t + 1) n (w + 1 + 1) (Does l at form) h)))))
    form_stands sc t n q k s (Assume e) h = absurd h
    form_stands sc t n q k s (ReadValue v) h = absurd h
    form_stands sc t n q k s ReadLine h = absurd h
    form_stands sc t n q k s (WriteValue e w) h = absurd h
    form_stands sc t n q k s (WriteText x w) h = absurd h
    form_stands sc t n q k s WriteLine h = absurd h
    form_stands sc t n q k s (Open v) h = absurd h
    form_stands sc t n q k s (Send c e) h = absurd h
    form_stands sc t n q k s (Receive c v) h = absurd h

    all_stands : (sc : List Scope) (t n q : ℕ) (ss : Statements) → IsInAll u ss
        → HasBeside p u (all_marks p.kinds ss) (code_all p sc t n q (bare_statements ss))
    all_stands sc t n q NoStatement h = absurd h
    all_stands sc t n q (AndThen a rest) (inl h) =
        marks_behind (all_marks p.kinds rest)
        (code_behind (code_all p sc (t + tables_in (bare_statement a)) (n + texts_in (bare_statement a))
        (after_statement p q (bare_statement a)) (bare_statements rest)) (stands sc t n q a h))
    all_stands sc t n q (AndThen a rest) (inr h) =
        before (statement_marks p.kinds a) (code p sc t n q (bare_statement a)) (bodies sc t n q a)
        (all_stands sc (t + tables_in (bare_statement a)) (n + texts_in (bare_statement a))
        (after_statement p q (bare_statement a)) rest h)

    children_stand : (sc : List Scope) (t n q : ℕ) (ss : Statements) → IsInAll u ss
        → HasBeside p u (children_marks p.kinds ss) (code_children p sc t n q (bare_statements ss))
    children_stand sc t n q NoStatement h = absurd h
    children_stand sc t n q (AndThen (Does l at form) rest) (inl h) =
        let a = bare_statement (Does l at form) in
        marks_behind (children_marks p.kinds rest) (marks_behind (own at ∷ [])
        (code_behind (i.End ∷ code_children p sc (t + tables_in a) (n + texts_in a) (after_statement p q a + 1)
        (bare_statements rest)) (stands sc t n q (Does l at form) h)))
    children_stand sc t n q (AndThen (Does l at form) rest) (inr h) =
        let a = bare_statement (Does l at form) in
        let more = code_children p sc (t + tables_in a) (n + texts_in a) (after_statement p q a + 1)
        (bare_statements rest) in
        of_code (sym (append_assoc (code p sc t n q a) (i.End ∷ []) more))
        (before (child_marks p.kinds (Does l at form)) (code p sc t n q a ++ i.End ∷ [])
        (and_one _ _ (own at) i.End (bodies sc t n q (Does l at form)))
        (children_stand sc (t + tables_in a) (n + texts_in a) (after_statement p q a + 1) rest h))

    arms_stand : (sc : List Scope) (t n q : ℕ) (s : Place) (arms : Arms) (end : ℕ) → IsInArms u arms
        → HasBeside p u (arms_marks p.kinds s arms) (code_arms p sc t n q (bare_arms arms) end)
    arms_stand sc t n q s NoArm end h = absurd h
    arms_stand sc t n q s (Or (On cs a) rest) end (inl h) =
        let b = bare_statement a in
        marks_behind (arms_marks p.kinds s rest) (marks_behind (own s ∷ [])
        (code_behind (i.Jump end ∷ code_arms p sc (t + tables_in b) (n + texts_in b) (after_statement p q b + 1)
        (bare_arms rest) end) (stands sc t n q a h)))
    arms_stand sc t n q s (Or (On cs a) rest) end (inr h) =
        let b = bare_statement a in
        let more = code_arms p sc (t + tables_in b) (n + texts_in b) (after_statement p q b + 1) (bare_arms rest) end in
        of_code (sym (append_assoc (code p sc t n q b) (i.Jump end ∷ []) more))
        (before (arm_marks p.kinds s (On cs a)) (code p sc t n q b ++ i.Jump end ∷ [])
        (and_one _ _ (own s) (i.Jump end) (bodies sc t n q a))
        (arms_stand sc (t + tables_in b) (n + texts_in b) (after_statement p q b + 1) s rest end h))

  pub blocks_stand : (b t n q : ℕ) (bs : List Block) (f : ℕ) (k : Block) → slice_get bs f ≡ Some k → IsIn u k.body
      → HasBeside p u (blocks_marks p.kinds bs) (blocks_code p b t n q (map bare_block bs))
  blocks_stand b t n q [] f k e h = absurd cc
  blocks_stand b t n q (c ∷ bs) zero k e h =
      marks_behind (blocks_marks p.kinds bs) (code_behind
      (blocks_code p (suc b) (t + tables_in (bare_statement c.body)) (n + texts_in (bare_statement c.body))
      (after_block p q (bare_block c)) (map bare_block bs))
      (marks_behind (own c.at ∷ []) (code_behind (end_instr b ∷ [])
      (stands (scopes_of p b) t n q c.body (subst (λ (x : Block). IsIn u x.body) (sym (same_Some c k e)) h)))))
  blocks_stand b t n q (c ∷ bs) (suc f) k e h =
      before (block_marks p.kinds c) (block_code p b t n q (bare_block c))
      (and_one _ _ (own c.at) (end_instr b) (bodies (scopes_of p b) t n q c.body))
      (blocks_stand (suc b) (t + tables_in (bare_statement c.body)) (n + texts_in (bare_statement c.body))
      (after_block p q (bare_block c)) bs f k e h)
