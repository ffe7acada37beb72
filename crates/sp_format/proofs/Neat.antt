-- What the tokens of a program have next to each other: no star behind an opening parenthesis, and no dot or number
-- behind a dot.
use Rattle.std.proofs.Common.{◌≡◌, ℕ, suc, Bool, true, false, ◌||◌, ◌&&◌, ◌==◌, cond, ◌<◌, length, map, List, [], ◌∷◌}
use Rattle.std.proofs.Common.{◌++◌, append_assoc, Option, Some, None, ◌⊎◌, inl, inr, refl, sym as back_of, ap, ◌∙◌}
use Rattle.std.proofs.Common.{subst, arith}
use Rattle.std.proofs.lemmas.Bool.Decides.{nat_tests}
use Rattle.std.proofs.lemmas.Bool.{eqb-true, false_from_ne_true}
use Rattle.sp_base.proofs.Facts.{first_true, second_true}
use Rattle.sp_tree.specs.declared.token.Token.{Token}
use Rattle.sp_tree.specs.declared.token.Kind.{Kind}
use Rattle.sp_tree.specs.declared.token.Kind.TheVariants as kind
use Rattle.sp_tree.specs.declared.operators.BinaryOp.{BinaryOp}
use Rattle.sp_tree.specs.PlainSyntax.{Program}
use Rattle.sp_tree.specs.Grammar.{IsRelational, equal, IsAdding, plus, minus}
use Rattle.sp_tree.specs.Grammar.{or, IsMultiplying, times, quotient, modulo, and}
use Rattle.sp_tree.specs.Viable.{Any, Spells}
use Rattle.sp_tree.specs.Symbols.{Symbol, AToken, AName, AProgram, AFormal, AStatement, MoreLabels, MoreArms}
use Rattle.sp_tree.specs.Symbols.{AnExpression, ARelation, ASimple, MoreTerms, ATerm, MoreFactors, AFactor, Value}
use Rattle.sp_tree.specs.Table as row
use Rattle.sp_tree.specs.Table.{ConstantRow, PartsRow, FormRow, SelectorRow, FactorRow, SimpleRow, Row, RowEntry}
use Rattle.sp_tree.specs.Table.{rows}
use Rattle.sp_tree.specs.Table.{look, gap}
use Rattle.sp_tree.specs.SymbolMachine.{Why, Bad, acts, NextStack, On, No, next_of_act, next_behind, end_from, RunEnd}
use Rattle.sp_tree.specs.SymbolMachine.{Done, StuckAt, run}
use Rattle.sp_tree.proofs.FromTable.{found}
use Rattle.sp_tree.proofs.MachineRuns.{leads}
use Rattle.sp_tree.proofs.ToTable.{program}

-- a token that may not stand behind another
abbrev pub clash : Kind → Kind → Bool
clash (kind.Sign a) (kind.Sign b) = (a == 9 && b == 2) || (a == 14 && (b == 14 || b == 18))
clash (kind.Sign a) kind.Number = a == 14
clash j k = false

-- ---- what is pending

abbrev is_empty : List Symbol → Bool
is_empty [] = true
is_empty (s ∷ q) = false

abbrev names_first : List Symbol → Bool
names_first (AName ∷ q) = true
names_first q = false

-- behind an opening parenthesis, and behind a dot
abbrev holds_part : List Symbol → Bool
holds_part (AName ∷ q) = true
holds_part (AFormal ∷ q) = true
holds_part (AnExpression d ∷ q) = true
holds_part q = false

abbrev holds_name : List Symbol → Bool
holds_name [] = true
holds_name (AName ∷ q) = true
holds_name q = false

abbrev guard : Kind → List Symbol → Bool
guard (kind.Sign n) q = cond (n == 9) (names_first q) (cond (n == 14) (is_empty q) true)
guard k q = true

-- a pending parenthesis is that of a channel's type, a pending dot that of the program
abbrev neat : List Symbol → Bool
neat [] = true
neat (AToken k ∷ q) = guard k q && neat q
neat (AProgram ∷ q) = is_empty q && neat q
neat (s ∷ q) = neat q

abbrev ready : Kind → List Symbol → Bool
ready (kind.Sign n) q = cond (n == 9) (holds_part q) (cond (n == 14) (holds_name q) true)
ready k q = true

names_hold : (q : List Symbol) → names_first q ≡ true → holds_part q ≡ true
names_hold [] h = absurd cc
names_hold (AName ∷ q) h = refl
names_hold (s ∷ q) h = absurd cc

empty_holds : (q : List Symbol) → is_empty q ≡ true → holds_name q ≡ true
empty_holds [] h = refl
empty_holds (s ∷ q) h = absurd cc

choice : (a b : Bool) (x y x' y' : Bool) → (x ≡ true → x' ≡ true) → (y ≡ true → y' ≡ true)
    → cond a x (cond b y true) ≡ true → cond a x' (cond b y' true) ≡ true
choice true b x y x' y' f g h = f h
choice false true x y x' y' f g h = g h
choice false false x y x' y' f g h = refl

guard_ready : (k : Kind) (q : List Symbol) → guard k q ≡ true → ready k q ≡ true
guard_ready (kind.Sign n) q h = choice (n == 9) (n == 14) (names_first q) (is_empty q) (holds_part q) (holds_name q)
    (names_hold q) (empty_holds q) h
guard_ready k q h = refl

-- ---- what the rows leave

record LeavesNeat (k : Kind) (l : List Symbol) : Type 0 where
  same : (q : List Symbol) → neat (l ++ q) ≡ neat q
  ready' : (q : List Symbol) → ready k (l ++ q) ≡ true

extend : {k : Kind} {l : List Symbol} → LeavesNeat k l → (m : List Symbol)
    → ((q : List Symbol) → neat (m ++ q) ≡ neat q)
    → LeavesNeat k (l ++ m)
extend {k} {l} f m g = record {
  same = λ q. ap neat (append_assoc l m q) ∙ f.same (m ++ q) ∙ g q;
  ready' = λ q. ap (ready k) (append_assoc l m q) ∙ f.ready' (m ++ q);
}

of_constant : {k : Kind} {l : List Symbol} → ConstantRow k l → LeavesNeat k l
of_constant row.constant_number = record { same = λ q. refl; ready' = λ q. refl }
of_constant _ = record { same = λ q. refl; ready' = λ q. refl }

of_parts : {d : ℕ} {k : Kind} {l : List Symbol} → PartsRow d k l → LeavesNeat k l
of_parts row.parts_begin = record { same = λ q. refl; ready' = λ q. refl }
of_parts _ = record { same = λ q. refl; ready' = λ q. refl }

of_form : {d : ℕ} {k : Kind} {l : List Symbol} → FormRow d k l → LeavesNeat k l
of_form row.form_name = record { same = λ q. refl; ready' = λ q. refl }
of_form _ = record { same = λ q. refl; ready' = λ q. refl }

of_selector : {d : ℕ} {k : Kind} {l : List Symbol} → SelectorRow d k l → LeavesNeat k l
of_selector row.selector_index = record { same = λ q. refl; ready' = λ q. refl }
of_selector row.selector_field = record { same = λ q. refl; ready' = λ q. refl }

of_factor : {d : ℕ} {k : Kind} {l : List Symbol} → FactorRow d k l → LeavesNeat k l
of_factor row.factor_number = record { same = λ q. refl; ready' = λ q. refl }
of_factor _ = record { same = λ q. refl; ready' = λ q. refl }

of_simple : {d : ℕ} {k : Kind} {l : List Symbol} → SimpleRow d k l → LeavesNeat k l
of_simple {d} (row.simple_factor r) = extend (of_factor r) (MoreFactors d ∷ MoreTerms d ∷ []) (λ q. refl)
of_simple row.simple_plus = record { same = λ q. refl; ready' = λ q. refl }
of_simple row.simple_minus = record { same = λ q. refl; ready' = λ q. refl }

of_relation : {k : Kind} {o : BinaryOp} → IsRelational k o → (q : List Symbol) → ready k q ≡ true
of_relation equal q = refl
of_relation _ _ = refl

of_adding : {k : Kind} {o : BinaryOp} → IsAdding k o → (q : List Symbol) → ready k q ≡ true
of_adding plus q = refl
of_adding minus q = refl
of_adding or q = refl

of_multiplying : {k : Kind} {o : BinaryOp} → IsMultiplying k o → (q : List Symbol) → ready k q ≡ true
of_multiplying times q = refl
of_multiplying quotient q = refl
of_multiplying modulo q = refl
of_multiplying and q = refl

by : {k : Kind} {l : List Symbol} (q : List Symbol) → LeavesNeat k l → neat q ≡ true → (neat (l ++ q) ≡ true)
    × (ready k (l ++ q) ≡ true)
by q f h = (f.same q ∙ h, f.ready' q)

row_neat : {s : Symbol} {k : Kind} {l : List Symbol} (q : List Symbol) → Row s k l → neat (s ∷ q) ≡ true
    → (neat (l ++ q) ≡ true) × (ready k (l ++ q) ≡ true)
row_neat q (row.token {k = k}) h = (
  second_true (guard k q) (neat q) h,
  guard_ready k q (first_true (guard k q) (neat q) h),
)
row_neat q row.program h = (h, refl)
row_neat q row.name h = (h, refl)
row_neat q row.heading h = (h, refl)
row_neat q row.next_name h = (h, refl)
row_neat q row.value_number h = (h, refl)
row_neat q row.value_name h = (h, refl)
row_neat q row.alias h = (h, refl)
row_neat q row.enumeration h = (h, refl)
row_neat q row.array h = (h, refl)
row_neat q row.fields h = (h, refl)
row_neat q row.channel h = (h, refl)
row_neat q row.fields_end h = (h, refl)
row_neat q row.fields_go_on h = (h, refl)
row_neat q row.no_field h = (h, refl)
row_neat q row.next_field h = (h, refl)
row_neat q row.by_value h = (h, refl)
row_neat q row.by_reference h = (h, refl)
row_neat q row.formals_end h = (h, refl)
row_neat q row.next_formal h = (h, refl)
row_neat q row.formals h = (h, refl)
row_neat q row.next_constant h = (h, refl)
row_neat q row.next_type h = (h, refl)
row_neat q row.next_variable h = (h, refl)
row_neat q row.becomes h = (h, refl)
row_neat q row.call h = (h, refl)
row_neat q row.other h = (h, refl)
row_neat q row.next_statement h = (h, refl)
row_neat q row.branches_end h = (h, refl)
row_neat q row.next_branch h = (h, refl)
row_neat q row.labels_end h = (h, refl)
row_neat q row.next_label h = (h, refl)
row_neat q row.arms_end h = (h, refl)
row_neat q row.arms_go_on h = (h, refl)
row_neat q row.no_arm h = (h, refl)
row_neat q row.upward h = (h, refl)
row_neat q row.downward h = (h, refl)
row_neat q row.arguments h = (h, refl)
row_neat q row.indices_end h = (h, refl)
row_neat q row.next_index h = (h, refl)
row_neat q row.arguments_end h = (h, refl)
row_neat q row.next_argument h = (h, refl)
row_neat q row.width h = (h, refl)
row_neat q (row.constant r) h = by q (of_constant r) h
row_neat q (row.block r) h = by q (of_parts r) h
row_neat q (row.parts r) h = by q (of_parts r) h
row_neat q (row.after_constants r) h = by q (of_parts r) h
row_neat q (row.after_types r) h = by q (of_parts r) h
row_neat q (row.after_variables r) h = by q (of_parts r) h
row_neat q (row.statement r) h = by q (of_form r) h
row_neat q (row.simple r) h = by q (of_simple r) h
row_neat q (row.factor r) h = by q (of_factor r) h
row_neat q (row.negated r) h = by q (of_factor r) h
row_neat q (row.reference r) h = by q (of_selector r) h
row_neat q (row.selector r) h = by q (of_selector r) h
row_neat q (row.target {d = d} r) h = by q (extend (of_selector r) (AToken (kind.Sign 13) ∷ AnExpression d ∷ [])
    (λ q. refl)) h
row_neat q (row.next_arm {d = d} r) h = by q
    (extend (of_constant r) (MoreLabels ∷ AStatement d ∷ MoreArms d ∷ []) (λ q. refl)) h
row_neat q (row.expression {d = d} r) h = by q (extend (of_simple r) (ARelation (suc d) ∷ []) (λ q. refl)) h
row_neat q (row.term {d = d} r) h = by q (extend (of_factor r) (MoreFactors d ∷ []) (λ q. refl)) h
row_neat q (row.relation {d = d} r) h = (h, of_relation r (ASimple d ∷ q))
row_neat q (row.next_term {d = d} r) h = (h, of_adding r (ATerm d ∷ MoreTerms d ∷ q))
row_neat q (row.next_factor {d = d} r) h = (h, of_multiplying r (AFactor d ∷ MoreFactors d ∷ q))

tail_neat : (s : Symbol) (q : List Symbol) → neat (s ∷ q) ≡ true → neat q ≡ true
tail_neat (AToken k) q h = second_true (guard k q) (neat q) h
tail_neat AProgram q h = second_true (is_empty q) (neat q) h
tail_neat s q h = h

-- ---- one token

-- the stack behind a token is neat and ready for the next one
abbrev IsNeatAfter : Token → List Symbol → Type 0
IsNeatAfter t n = (neat n ≡ true) × (ready t.kind n ≡ true)

takes : (s : Symbol) (q n : List Symbol) (t : Token) (e : RowEntry (Row s)) → look (rows s) t.kind ≡ Some e
    → neat (s ∷ q) ≡ true → On (e.left ++ q) ≡ On n → IsNeatAfter t n
takes s q n t e f h p =
    let same : e.left ++ q ≡ n = cc in
    let y = row_neat q e.row h in
    subst (IsNeatAfter t) same
    (y.0, subst (λ k. ready k (e.left ++ q) ≡ true) (back_of (found (rows s) t.kind e f)) y.1)

by_act : (s : Symbol) (q n : List Symbol) (t : Token) (o : Option (RowEntry (Row s))) (v : Option (Value s))
    → look (rows s) t.kind ≡ o → neat (s ∷ q) ≡ true → (neat q ≡ true → next_behind None q t ≡ On n → IsNeatAfter t n)
    → next_of_act (acts true o v) q (next_behind None q t) ≡ On n → IsNeatAfter t n
by_act s q n t (Some e) v f h go p = takes s q n t e f h p
by_act s q n t None (Some v) f h go p = go (tail_neat s q h) p
by_act s q n t None None f h go p = absurd cc

step_neat : (q n : List Symbol) (t : Token) → neat q ≡ true → next_behind None q t ≡ On n → IsNeatAfter t n
step_neat [] n t h p = absurd cc
step_neat (s ∷ q) n t h p = by_act s q n t (look (rows s) t.kind) (gap s t) refl h (λ h. step_neat q n t h) p

-- a symbol that has no row for the token and no gap
stuck : (s : Symbol) (q n : List Symbol) (t : Token) (k : Kind) → t.kind ≡ k → look (rows s) k ≡ None → gap s t ≡ None
    → next_behind None (s ∷ q) t ≡ On n → ⊥
stuck s q n t k e l g p =
    let f : look (rows s) t.kind ≡ None = ap (look (rows s)) e ∙ l in
    let x : next_of_act (acts true (look (rows s) t.kind) (gap s t)) q (next_behind None q t) ≡ No Bad =
    (λ i. next_of_act (acts true (f i) (g i)) q (next_behind None q t)) in
    let y : No Bad ≡ On n = back_of x ∙ p in cc

no_star : (q n : List Symbol) (t : Token) → holds_part q ≡ true → t.kind ≡ kind.Sign 2 → next_behind None q t ≡ On n → ⊥
no_star (AName ∷ q) n t h e p = stuck AName q n t (kind.Sign 2) e refl refl p
no_star (AFormal ∷ q) n t h e p = stuck AFormal q n t (kind.Sign 2) e refl refl p
no_star (AnExpression d ∷ q) n t h e p = stuck (AnExpression d) q n t (kind.Sign 2) e refl refl p
no_star [] n t h e p = cc
no_star (s ∷ q) n t h e p = cc

no_dot : (q n : List Symbol) (t : Token) (b : ℕ) → holds_name q ≡ true → t.kind ≡ kind.Sign b
    → next_behind None q t ≡ On n
    → ⊥
no_dot [] n t b h e p = cc
no_dot (AName ∷ q) n t b h e p = stuck AName q n t (kind.Sign b) e refl refl p
no_dot (s ∷ q) n t b h e p = cc

if_true : (b : Bool) {x : Bool} (y : Bool) → b ≡ true → cond b x y ≡ true → x ≡ true
if_true b {x} y e h = let f : cond true x y ≡ true = subst (λ b. cond b x y ≡ true) e h in f

if_false : (b x : Bool) {y : Bool} → b ≡ false → cond b x y ≡ true → y ≡ true
if_false b x {y} e h = let f : cond false x y ≡ true = subst (λ b. cond b x y ≡ true) e h in f

ne_by : (a : ℕ) → (a == 14) ≡ true → (a == 9) ≡ false
ne_by a h = grind (arith, nat_tests)

star_by : (q n : List Symbol) (t : Token) (a b : ℕ) → ready (kind.Sign a) q ≡ true → t.kind ≡ kind.Sign b
    → next_behind None q t ≡ On n → (x y z : Bool) → (a == 9) ≡ x → (b == 2) ≡ y → (a == 14) ≡ z → (w : Bool)
    → ((x && y) || (z && w)) ≡ false
star_by q n t a b h e p true true z f g i w =
    absurd (no_star q n t (if_true (a == 9) _ f h) (e ∙ ap kind.Sign (eqb-true b 2 g)) p)
star_by q n t a b h e p true false true f g i w = absurd (let j = ne_by a i in cc)
star_by q n t a b h e p true false false f g i w = refl
star_by q n t a b h e p false y true f g i w =
    absurd (no_dot q n t b (if_true (a == 14) _ i (if_false (a == 9) _ f h)) e p)
star_by q n t a b h e p false y false f g i w = refl

no_digits : (q n : List Symbol) (t : Token) → holds_name q ≡ true → t.kind ≡ kind.Number
    → next_behind None q t ≡ On n → ⊥
no_digits [] n t h e p = cc
no_digits (AName ∷ q) n t h e p = stuck AName q n t kind.Number e refl refl p
no_digits (s ∷ q) n t h e p = cc

no_clash : (q n : List Symbol) (t : Token) (j k : Kind) → ready j q ≡ true → t.kind ≡ k → next_behind None q t ≡ On n
    → clash j k ≡ false
no_clash q n t (kind.Sign a) (kind.Sign b) h e p =
    star_by q n t a b h e p (a == 9) (b == 2) (a == 14) refl refl refl (b == 14 || b == 18)
no_clash q n t (kind.Sign a) kind.Number h e p =
    false_from_ne_true (a == 14) (λ f. no_digits q n t (if_true (a == 14) _ f (if_false (a == 9) _ (ne_by a f) h)) e p)
no_clash q n t j k h e p = refl

-- ---- all tokens

-- no token clashes with the one before it
abbrev pub apart_from : Kind → List Kind → Type 0
apart_from j [] = Unit {0}
apart_from j (k ∷ ks) = (clash j k ≡ false) × apart_from k ks

abbrev Behind : Kind → List Token → Type 0
Behind j ts = apart_from j (map (λ t. t.kind) ts)

run_apart_by : (t : Token) (ts : List Token) (q : List Symbol) (j : Kind) (n : NextStack) → next_behind None q t ≡ n
    → neat q ≡ true → ready j q ≡ true → ((s : List Symbol) → neat s ≡ true → ready t.kind s ≡ true
    → run None ts s ≡ Done → Behind t.kind ts) → end_from n (t ∷ ts) (run None ts) ≡ Done → Behind j (t ∷ ts)
run_apart_by t ts q j (On s) e h r go d = let y = step_neat q s t h e in
    (no_clash q s t j t.kind r refl e, go s y.0 y.1 d)
run_apart_by t ts q j (No w) e h r go d = absurd cc

run_apart : (ts : List Token) (q : List Symbol) (j : Kind) → neat q ≡ true → ready j q ≡ true → run None ts q ≡ Done
    → Behind j ts
run_apart [] q j h r d = tt
run_apart (t ∷ ts) q j h r d = run_apart_by t ts q j (next_behind None q t) refl h r
    (λ s h r d. run_apart ts s t.kind h r d)
    d

far_by : {x : RunEnd} → (x ≡ Done) ⊎ ((w : Why) × (us : List Token) × (length us < 0) × (x ≡ StuckAt w us)) → x ≡ Done
far_by (inl q) = q
far_by (inr (w, us, h, q)) = absurd (omega arith)

-- the tokens of a program do not clash
pub program_apart : (text : List ℕ) (ts : List Token) (p : Program) → Spells text ts p
    → apart_from kind.Name (map (λ t. t.kind) ts)
program_apart text ts p h = run_apart ts (AProgram ∷ []) kind.Name refl refl
    (far_by (leads text Any None 0 (λ d ts o. inl refl) (program text Any h) []).proof)
