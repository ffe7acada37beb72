-- Where the machine gets stuck is the first token with which the tokens are not viable, or with which a part lies too
-- deep.
use Rattle.std.proofs.Common.{◌≡◌, ℕ, suc, ◌<◌, ◌≤◌, Bool, true, false, ltb, List, [], ◌∷◌, ◌++◌, length, Option, Some}
use Rattle.std.proofs.Common.{None, ◌⊎◌, inl, inr, refl, sym as back_of, ap, ◌∙◌, subst, append_assoc, arith}
use borrow.Author.Tests.{ltb-true}
use Rattle.std.proofs.lemmas.Bool.Decides.{nat_tests}
use Rattle.std.proofs.lemmas.Bool.{cases_lt}
use Rattle.sp_tree.specs.declared.token.Token.{Token}
use Rattle.sp_tree.specs.PlainSyntax.{Program}
use Rattle.sp_tree.specs.Grammar.{IsProgram}
use Rattle.sp_tree.specs.Viable.{Any, Shallow, Spells, IsViable, IsShallow}
use Rattle.sp_tree.specs.Symbols.{Symbol, AProgram, Value, part}
use Rattle.sp_tree.specs.Table.{RowEntry, Row, rows, look, gap}
use Rattle.sp_tree.specs.SymbolMachine.{Why, Deep, Bad, Act, Take, Skip, Fail, allows, acts, act, NextStack, On, No}
use Rattle.sp_tree.specs.SymbolMachine.{next_of_act}
use Rattle.sp_tree.specs.SymbolMachine.{next_behind, end_from, RunEnd, Done, StuckAt, run}
use Rattle.sp_tree.proofs.MachineRuns.{leads}
use Rattle.sp_tree.proofs.ToTable.{program}
use Rattle.sp_tree.proofs.Completes.{TokensOfAll, none, and, back, complete, finish_all}

module _ (limit : ℕ) where
  -- where the machine with the limit and the one without may differ
  abbrev SameAct : Act → Act → Type 0
  SameAct (Fail Deep) (Take l) = Unit {0}
  SameAct (Fail Deep) a = ⊥
  SameAct (Take l) a = a ≡ Take l
  SameAct Skip a = a ≡ Skip
  SameAct (Fail Bad) a = a ≡ Fail Bad

  acts_same : {s : Symbol} (b : Bool) (o : Option (RowEntry (Row s))) (v : Option (Value s))
      → SameAct (acts b o v) (acts true o v)
  acts_same true (Some e) v = refl
  acts_same false (Some e) v = tt
  acts_same b None (Some v) = refl
  acts_same b None None = refl

  -- the same of a whole stack
  abbrev SameNext : NextStack → NextStack → Type 0
  SameNext (On stack) n = n ≡ On stack
  SameNext (No Bad) n = n ≡ No Bad
  SameNext (No Deep) n = (stack : List Symbol) × (n ≡ On stack)

  acted_same : (a b : Act) (stack : List Symbol) (o p : NextStack) → SameAct a b → SameNext o p
      → SameNext (next_of_act a stack o) (next_of_act b stack p)
  acted_same (Take l) b stack o p h g = ap (λ a. next_of_act a stack p) h
  acted_same Skip b stack o p h g = subst (λ a. SameNext o (next_of_act a stack p)) (back_of h) g
  acted_same (Fail Bad) b stack o p h g = ap (λ a. next_of_act a stack p) h
  acted_same (Fail Deep) (Take l) stack o p h g = (_, refl)
  acted_same (Fail Deep) Skip stack o p h g = absurd h
  acted_same (Fail Deep) (Fail w) stack o p h g = absurd h

  after_same : (stack : List Symbol) (t : Token)
      → SameNext (next_behind (Some limit) stack t) (next_behind None stack t)
  after_same [] t = refl
  after_same (s ∷ stack) t = acted_same (act (Some limit) s t) (act None s t) stack (next_behind (Some limit) stack t)
      (next_behind None stack t) (acts_same (allows (Some limit) (part s)) (look (rows s) t.kind) (gap s t))
      (after_same stack t)

  far : (stack : List Symbol) (t : Token) (stack' : List Symbol) → next_behind (Some limit) stack t ≡ On stack'
      → next_behind None stack t ≡ On stack'
  far stack t stack' q = subst (λ n. SameNext n (next_behind None stack t)) q (after_same stack t)

  -- the machine takes these tokens, and comes from one stack to another
  pub data TakesTokens : List Symbol → List Token → List Symbol → Type 0 where
    stays : {q : List Symbol} → TakesTokens q [] q
    goes : {q r s : List Symbol} {ts : List Token} → (t : Token) → next_behind (Some limit) q t ≡ On r
        → TakesTokens r ts s
        → TakesTokens q (t ∷ ts) s

  comes : {q s : List Symbol} {ts : List Token} → TakesTokens q ts s → (us : List Token)
      → run (Some limit) (ts ++ us) q ≡ run (Some limit) us s
  comes stays us = refl
  comes (goes {ts = ts} t h p) us = ap (λ o. end_from o (t ∷ (ts ++ us)) (run (Some limit) (ts ++ us))) h ∙ comes p us

  comes_far : {q s : List Symbol} {ts : List Token} → TakesTokens q ts s → (us : List Token)
      → run None (ts ++ us) q ≡ run None us s
  comes_far stays us = refl
  comes_far {q} (goes {r = r} {ts = ts} t h p) us =
      ap (λ o. end_from o (t ∷ (ts ++ us)) (run None (ts ++ us))) (far q t r h) ∙ comes_far p us

  -- where it gets stuck
  pub record Splits (stack : List Symbol) (ts : List Token) (w : Why) (rest : List Token) : Type 0 where
    pub front : List Token
    pub pending : List Symbol
    pub all : ts ≡ front ++ rest
    pub passes : TakesTokens stack front pending
    pub ends : run (Some limit) rest pending ≡ StuckAt w rest
    pub stops : (rest ≡ []) ⊎ ((t : Token) × (us : List Token) × (rest ≡ t ∷ us)
        × (next_behind (Some limit) pending t ≡ No w))

  end_is : {w v : Why} {n m : List Token} → StuckAt w n ≡ StuckAt v m → (w ≡ v) × (n ≡ m)
  end_is e = (cc, cc)

  whole : (stack : List Symbol) (t : Token) (stack' : List Symbol) (ts : List Token) (w : Why) (rest : List Token)
      → next_behind (Some limit) stack t ≡ On stack' → Splits stack' ts w rest → Splits stack (t ∷ ts) w rest
  whole stack t stack' ts w rest q b = record {
    front = t ∷ b.front;
    pending = b.pending;
    all = ap (λ l. t ∷ l) b.all;
    passes = goes t q b.passes;
    ends = b.ends;
    stops = b.stops;
  }

  at_token : (stack : List Symbol) (t : Token) (ts : List Token) (w : Why) (rest : List Token)
      → next_behind (Some limit) stack t ≡ No w → t ∷ ts ≡ rest → Splits stack (t ∷ ts) w rest
  at_token stack t ts w rest q e = subst (Splits stack (t ∷ ts) w) e (record {
    front = [];
    pending = stack;
    all = refl;
    passes = stays;
    ends = ap (λ o. end_from o (t ∷ ts) (run (Some limit) ts)) q;
    stops = inr (t, ts, refl, q);
  })

  splits_by : (ts : List Token) (stack : List Symbol) (t : Token) (w : Why) (rest : List Token)
      → ((stack' : List Symbol) → run (Some limit) ts stack' ≡ StuckAt w rest → Splits stack' ts w rest)
      → (o : NextStack)
      → next_behind (Some limit) stack t ≡ o → end_from o (t ∷ ts) (run (Some limit) ts) ≡ StuckAt w rest
      → Splits stack (t ∷ ts) w rest
  splits_by ts stack t w rest f (No v) q e = let i = end_is e in at_token stack t ts w rest (q ∙ ap No i.0) i.1
  splits_by ts stack t w rest f (On stack') q e = whole stack t stack' ts w rest q (f stack' e)

  pub splits : (ts : List Token) (stack : List Symbol) (w : Why) (rest : List Token)
      → run (Some limit) ts stack ≡ StuckAt w rest → Splits stack ts w rest
  splits [] [] w rest e = absurd cc
  splits [] (s ∷ stack) w rest e = let i = end_is e in record {
    front = [];
    pending = s ∷ stack;
    all = i.1;
    passes = stays;
    ends = subst (λ l. run (Some limit) l (s ∷ stack) ≡ StuckAt w l) i.1 (e ∙ ap (StuckAt w) (back_of i.1));
    stops = inl (back_of i.1);
  }
  splits (t ∷ ts) stack w rest e = splits_by ts stack t w rest (λ stack' q. splits ts stack' w rest q)
      (next_behind (Some limit) stack t) refl e

  module _ (text : List ℕ) where
    fits : (k d : ℕ) (t : Token) (ts : List Token) → allows (Some limit) (Some d) ≡ true → Shallow limit k d (t ∷ ts)
    fits k d t ts h = λ g. ltb-true d limit h

    shallow : (k : ℕ) {q s : List Symbol} {ts : List Token} → TakesTokens q ts s → (us r : List Token)
        → TokensOfAll text (Shallow limit k) s us r → TokensOfAll text (Shallow limit k) q (ts ++ us) r
    shallow k stays us r h = h
    shallow k {q} (goes {r = s} {ts = ts} t e p) us r h =
        back text (Shallow limit k) (Some limit) (fits k) q t s e (ts ++ us) r (shallow k p us r h)

    any : {q s : List Symbol} {ts : List Token} → TakesTokens q ts s → (us r : List Token) → TokensOfAll text Any s us r
        → TokensOfAll text Any q (ts ++ us) r
    any stays us r h = h
    any {q} (goes {r = s} {ts = ts} t e p) us r h =
        back text Any None (λ d t ts g. tt) q t s (far q t s e) (ts ++ us) r (any p us r h)

    -- a completion of what is pending, shallow where more tokens than its own are left
    shallow_end : (stack : List Symbol) → TokensOfAll text (Shallow limit (length (finish_all stack))) stack
        (finish_all stack)
        []
    shallow_end stack = complete text (Shallow limit (length (finish_all stack))) stack
        (λ d us h g. absurd (omega arith))

    of_shallow : (front us : List Token) → TokensOfAll text (Shallow limit (length us)) (AProgram ∷ []) (front ++ us) []
        → IsShallow text limit front
    of_shallow front us (and p none) = (us, p.0, p.1)

    pub is_shallow : (front : List Token) (pending : List Symbol) → TakesTokens (AProgram ∷ []) front pending
        → IsShallow text limit front
    is_shallow front pending p = of_shallow front (finish_all pending)
        (shallow (length (finish_all pending)) p (finish_all pending) [] (shallow_end pending))

    -- no program goes on where the machine without a limit cannot
    far_by : {x : RunEnd} → (x ≡ Done) ⊎ ((w : Why) × (us : List Token) × (length us < 0) × (x ≡ StuckAt w us))
        → x ≡ Done
    far_by (inl q) = q
    far_by (inr (w, us, h, q)) = absurd (omega arith)

    far_done : {ts : List Token} {p : Program} → Spells text ts p → run None ts (AProgram ∷ []) ≡ Done
    far_done h = far_by (leads text Any None 0 (λ d ts o. inl refl) (program text Any h) []).proof

    -- a part that begins in tokens of which more than k are left may begin for the machine with the limit
    bound : (k d : ℕ) (ts : List Token) → Shallow limit k d ts → ltb d limit ≡ false → (k < length ts) ⊎ (length ts ≤ k)
        → length ts < suc k
    bound k d ts h e (inl g) = let low = h g in absurd (grind (arith, nat_tests))
    bound k d ts h e (inr g) = omega arith

    reaches_by : (k d : ℕ) (ts : List Token) → Shallow limit k d ts → (b : Bool) → ltb d limit ≡ b
        → (ltb d limit ≡ true) ⊎ (length ts < suc k)
    reaches_by k d ts h true e = inl e
    reaches_by k d ts h false e = inr (bound k d ts h e (cases_lt k (length ts)))

    shallow_done : {k : ℕ} {ts : List Token} {p : Program} → IsProgram text (Shallow limit k) ts [] p
        → (run (Some limit) ts (AProgram ∷ []) ≡ Done)
        ⊎ ((w : Why) × (us : List Token) × (length us < suc k) × (run (Some limit) ts (AProgram ∷ []) ≡ StuckAt w us))
    shallow_done {k} h = (leads text (Shallow limit k) (Some limit) (suc k)
        (λ d ts g. reaches_by k d ts g (ltb d limit) refl) (program text (Shallow limit k) h) []).proof

    regroup : (front us : List Token) (t : Token) → front ++ t ∷ us ≡ (front ++ t ∷ []) ++ us
    regroup front us t = back_of (append_assoc front (t ∷ []) us)

    stuck_at : (reach : Option ℕ) (stack : List Symbol) (t : Token) (us : List Token) {w : Why}
        → next_behind reach stack t ≡ No w → run reach (t ∷ us) stack ≡ StuckAt w (t ∷ us)
    stuck_at reach stack t us q = ap (λ o. end_from o (t ∷ us) (run reach us)) q

    -- a token that the machine cannot take
    pub bad : {front : List Token} {pending : List Symbol} (t : Token) → TakesTokens (AProgram ∷ []) front pending
        → next_behind (Some limit) pending t ≡ No Bad → IsViable text (front ++ t ∷ []) → ⊥
    bad {front} {pending} t p r v =
        let far_no : next_behind None pending t ≡ No Bad =
        subst (λ n. SameNext n (next_behind None pending t)) r (after_same pending t) in
        let x : run None ((front ++ t ∷ []) ++ v.0) (AProgram ∷ []) ≡ Done = far_done v.2 in
        let y : run None (front ++ t ∷ v.0) (AProgram ∷ []) ≡ Done =
        ap (λ l. run None l (AProgram ∷ [])) (regroup front v.0 t) ∙ x in
        let z : StuckAt Bad (t ∷ v.0) ≡ Done =
        back_of (comes_far p (t ∷ v.0) ∙ stuck_at None pending t v.0 far_no) ∙ y in
        cc

    of_any : (front more : List Token) (t : Token) → TokensOfAll text Any (AProgram ∷ []) ((front ++ t ∷ []) ++ more) []
        → IsViable text (front ++ t ∷ [])
    of_any front more t (and p none) = (more, p.0, p.1)

    -- a token that it may not take, since a part lies too deep
    pub deep_viable : {front : List Token} {pending : List Symbol} (t : Token)
        → TakesTokens (AProgram ∷ []) front pending
        → next_behind (Some limit) pending t ≡ No Deep → IsViable text (front ++ t ∷ [])
    deep_viable {front} {pending} t p r =
        let on : (stack : List Symbol) × (next_behind None pending t ≡ On stack) =
        subst (λ n. SameNext n (next_behind None pending t)) r (after_same pending t) in
        let more = finish_all on.0 in
        let x : TokensOfAll text Any pending (t ∷ more) [] =
        back text Any None (λ d t ts g. tt) pending t on.0 on.1 more [] (complete text Any on.0 (λ d us g. tt)) in
        of_any front more t (subst (λ l. TokensOfAll text Any (AProgram ∷ []) l []) (regroup front more t)
        (any p (t ∷ more) [] x))

    too_late : {x : RunEnd} {w : Why} {t : Token} {us : List Token} → x ≡ StuckAt w (t ∷ us) → (x ≡ Done)
        ⊎ ((v : Why) × (vs : List Token) × (length vs < suc (length us)) × (x ≡ StuckAt v vs)) → ⊥
    too_late q (inl e) = cc
    too_late q (inr (v, vs, h, e)) = let i = end_is (back_of q ∙ e) in let same = ap length i.1 in omega arith

    pub deep_not_shallow : {front : List Token} {pending : List Symbol} (t : Token)
        → TakesTokens (AProgram ∷ []) front pending → next_behind (Some limit) pending t ≡ No Deep
        → IsShallow text limit (front ++ t ∷ []) → ⊥
    deep_not_shallow {front} {pending} t p r v =
        let y : run (Some limit) ((front ++ t ∷ []) ++ v.0) (AProgram ∷ []) ≡ StuckAt Deep (t ∷ v.0) =
        ap (λ l. run (Some limit) l (AProgram ∷ [])) (back_of (regroup front v.0 t)) ∙ comes p (t ∷ v.0)
        ∙ stuck_at (Some limit) pending t v.0 r in
        too_late y (shallow_done v.2)

    open_end : (stack : List Symbol) (w : Why) → run (Some limit) [] stack ≡ StuckAt w [] → run None [] stack ≡ Done → ⊥
    open_end [] w x y = cc
    open_end (s ∷ stack) w x y = cc

    pub append_nil : (l : List Token) → l ++ [] ≡ l
    append_nil [] = refl
    append_nil (t ∷ l) = ap (λ k. t ∷ k) (append_nil l)

    -- tokens after which something is pending are no program
    pub no_program : {ts : List Token} {pending : List Symbol} {w : Why} → TakesTokens (AProgram ∷ []) ts pending
        → run (Some limit) [] pending ≡ StuckAt w [] → (p : Program) → Spells text ts p → ⊥
    no_program {ts} {pending} {w} q e p h =
        let x : run None (ts ++ []) (AProgram ∷ []) ≡ Done =
        subst (λ l. run None l (AProgram ∷ []) ≡ Done) (back_of (append_nil ts)) (far_done h) in
        open_end pending w e (back_of (comes_far q []) ∙ x)
