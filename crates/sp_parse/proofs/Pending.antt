-- What is read and what is still pending: how a reading goes on.
use Rattle.std.proofs.Common.{◌≡◌, ℕ, Bool, true, false, cond, List, [], ◌∷◌, ◌++◌, length, Option, Some, None}
use Rattle.std.proofs.Common.{refl, sym as back_of, ap, ◌∙◌, subst, arith, append_assoc}
use Rattle.sp_base.specs.declared.halt.Halt.{Halt}
use Rattle.sp_base.specs.declared.halt.Halt.TheVariants as halt
use Rattle.sp_base.specs.declared.halt.Refusal.{Refusal}
use Rattle.sp_tree.specs.declared.token.Token.{Token}
use Rattle.sp_tree.specs.declared.token.Kind.{Kind}
use Rattle.sp_tree.specs.Breaches.{nesting}
use Rattle.sp_tree.specs.Symbols.{Symbol, Value, Values, split, part, AToken}
use Rattle.sp_tree.specs.Table.{Row, row_entry, rows, look, gap, build, kind_is, token}
use Rattle.sp_tree.specs.SymbolMachine.{allows}
use Rattle.sp_tree.specs.Derives.{PartMayBegin as MayBegin, Derives, skips, DerivesAll, none, and}
use Rattle.sp_parse.specs.declared.source.Source.{Source}
use Rattle.sp_parse.specs.declared.source.Tokens.{Tokens}
use Rattle.sp_parse.specs.Reads.{IsNestable, HasTokens, breaks, EndsBy, Ends, Pending, Looks, Skips, Fails, Takes}
use Rattle.sp_parse.specs.Reads.{Differs}
use Rattle.sp_parse.specs.Reads.{Passes, Expects, Closes, GoesOn, Keeps, no_kind, first_failure, behind}
use Rattle.sp_parse.proofs.Steps.{take, step_takes, step_skips, step_fails, step_ends, look_token, kind_is-same}
use Rattle.sp_parse.proofs.Rows.{join, join_all, clash}

-- where a failure stays the same, and the machine goes on alike without one
pub ends_by : (source : Source) (o other : Option Halt) (ts us : List Token) (p q : List Symbol) (r : Option Refusal)
    → other ≡ o → (o ≡ None → breaks source ts p ≡ breaks source us q) → EndsBy source other us q r
    → EndsBy source o ts p r
ends_by source None other ts us p q r same e h = e refl ∙ subst (λ o. EndsBy source o us q r) same h
ends_by source (Some halt.Memory) other ts us p q r same e h = subst (λ o. EndsBy source o us q r) same h
ends_by source (Some (halt.Refused f)) other ts us p q r same e h = subst (λ o. EndsBy source o us q r) same h

-- where the reading fails, and the machine too
pub ends_failed : (source : Source) (o other : Option Halt) (f : Refusal) (ts us : List Token) (p q : List Symbol)
    (r : Option Refusal) → other ≡ first_failure o (halt.Refused f) → (o ≡ None → breaks source ts p ≡ Some f)
    → EndsBy source other us q r → EndsBy source o ts p r
ends_failed source None other f ts us p q r same e h = e refl ∙ subst (λ o. EndsBy source o us q r) same h
ends_failed source (Some halt.Memory) other f ts us p q r same e h = subst (λ o. EndsBy source o us q r) same h
ends_failed source (Some (halt.Refused g)) other f ts us p q r same e h = subst (λ o. EndsBy source o us q r) same h

-- a reading that fails has failed
pub has_failed : {A : Type 0} (o other : Option Halt) (e : Halt) → other ≡ first_failure o e → other ≡ None → A
has_failed None other e p q = absurd (let x : Some e ≡ None = back_of p ∙ q in cc)
has_failed (Some f) other e p q = absurd (let x : Some f ≡ None = back_of p ∙ q in cc)

pub head : {text : List ℕ} {s : Symbol} {ts r : List Token} {vs : Values (s ∷ [])}
    → DerivesAll text IsNestable (s ∷ []) ts r vs → Derives text IsNestable s ts r vs.0
head (and x none) = x

split_all : {text : List ℕ} (p m : List Symbol) {ts r : List Token} {vs : Values (p ++ m)}
    → DerivesAll text IsNestable (p ++ m) ts r vs → (u : List Token)
    × DerivesAll text IsNestable p ts u (split p m vs).0 × DerivesAll text IsNestable m u r (split p m vs).1
split_all [] m {ts = ts} d = (ts, none, d)
split_all (s ∷ p) m (and x d) = let (u, y, z) = split_all p m d in (u, and x y, z)

-- a symbol takes a token, and what it leaves is derived
pub takes_by : {text : List ℕ} {s : Symbol} {k : Kind} {p : List Symbol} {ts u r : List Token} {t : Token}
    {vs : Values p} (row : Row s k p) → look (rows s) k ≡ Some (row_entry k p row)
    → MayBegin IsNestable (part s) (t ∷ u) → t.kind ≡ k → ts ≡ t ∷ u → DerivesAll text IsNestable p u r vs
    → Derives text IsNestable s ts r (build text row t vs)
takes_by {text} {s} {k} {p} {ts} {u} {r} {t} {vs} row found may same all d =
    subst (λ ts. Derives text IsNestable s ts r (build text row t vs)) (back_of all)
    (take (row_entry k p row) found t same may d)

-- a symbol that takes one kind alone here stands or falls with that token
closes_by : (source : Source) (s : Symbol) (k : Kind) (a : List Symbol) (row : Row s k a) (t : Token) (ts : List Token)
    (b : Bool) → kind_is k t.kind ≡ b → look (rows s) t.kind ≡ cond b (Some (row_entry k a row)) None → gap s t ≡ None
    → part s ≡ None → (q : List Symbol) → breaks source (t ∷ ts) (s ∷ q) ≡ breaks source (t ∷ ts) (AToken k ∷ a ++ q)
closes_by source s k a row t ts true p h g whole q =
    step_takes source s t ts (row_entry k a row) h (ap (allows (Some nesting)) whole) q
    ∙ back_of (step_takes source (AToken k) t ts (row_entry k [] token) (look_token k t.kind true p) refl (a ++ q))
closes_by source s k a row t ts false p h g whole q = step_fails source s t ts h g q
    ∙ back_of (step_fails source (AToken k) t ts (look_token k t.kind false p) refl (a ++ q))

closes_all : (source : Source) (s : Symbol) (k : Kind) (a : List Symbol) (row : Row s k a) (ts : List Token)
    → ((t : Token) (u : List Token) → ts ≡ t ∷ u
    → look (rows s) t.kind ≡ cond (kind_is k t.kind) (Some (row_entry k a row)) None)
    → ((t : Token) → gap s t ≡ None) → part s ≡ None → (q : List Symbol)
    → breaks source ts (s ∷ q) ≡ breaks source ts (AToken k ∷ a ++ q)
closes_all source s k a row [] h g whole q = step_ends source s q ∙ back_of (step_ends source (AToken k) (a ++ q))
closes_all source s k a row (t ∷ ts) h g whole q =
    closes_by source s k a row t ts (kind_is k t.kind) refl (h t ts refl) (g t) whole q

module _ {V : Type 0} {source : Source} {l : List Symbol} {of : Values l → V} where
  -- nothing is read yet
  pub begin : {old : Tokens} → HasTokens source old.rest.now → Pending source l of l of old old
  begin a = record {
    derives = λ fine. (fine, λ r vs d. (vs, d, refl));
    leads = λ q r h. h;
    shorter = omega arith;
    ready = a;
  }

  -- the same, said of equal values
  pub say : {p : List Symbol} {gives next : Values p → V} {old new : Tokens} → ((vs : Values p) → next vs ≡ gives vs)
      → Pending source l of p gives old new → Pending source l of p next old new
  say e a = record {
    derives = λ fine. let i = a.derives fine in
        (i.0, λ r vs d. let j = i.1 r vs d in (j.0, j.1, e vs ∙ j.2));
    leads = a.leads;
    shorter = a.shorter;
    ready = a.ready;
  }

  -- a symbol is read
  pub read : {s : Symbol} {m : List Symbol} {gives : Values (s ∷ m) → V} {v : Value s} {old mid new : Tokens}
      → Pending source l of (s ∷ m) gives old mid → Pending source (s ∷ []) (λ vs. vs.0) [] (λ _. v) mid new
      → Pending source l of m (λ ws. gives (v, ws)) old new
  read {m = m} {gives = gives} {new = new} a b = record {
    derives = λ fine.
        let i = b.derives fine in
        let j = a.derives i.0 in (
          j.0,
          λ r ws d.
              let x = i.1 new.rest.now tt none in
              let y = j.1 r (x.0.0, ws) (and (head x.1) d) in
              (y.0, y.1, ap (λ v. gives (v, ws)) x.2 ∙ y.2),
        );
    leads = λ q r h. a.leads q r (b.leads (m ++ q) r h);
    shorter = omega (arith, a.shorter, b.shorter);
    ready = b.ready;
  }

  -- several symbols are read as one
  pub read_as : {U : Type 0} (p m : List Symbol) {gives : Values (p ++ m) → V} {from : Values p → U} {v : U}
      (next : Values m → V) {old mid new : Tokens} → Pending source l of (p ++ m) gives old mid
      → Pending source p from [] (λ _. v) mid new
      → ((us : Values p) → v ≡ from us → (ws : Values m) → next ws ≡ gives (join p m us ws))
      → Pending source l of m next old new
  read_as p m next {mid = mid} {new = new} a b e = record {
    derives = λ fine.
        let i = b.derives fine in
        let j = a.derives i.0 in (
          j.0,
          λ r ws d.
              let x = i.1 new.rest.now tt none in
              let y = j.1 r (join p m x.0 ws) (join_all p m x.1 d) in
              (y.0, y.1, e x.0 x.2 ws ∙ y.2),
        );
    leads = λ q r h. a.leads q r
        (subst (λ l. Ends source mid l r) (back_of (append_assoc p m q)) (b.leads (m ++ q) r h));
    shorter = omega (arith, a.shorter, b.shorter);
    ready = b.ready;
  }

  -- what is pending is read up to other symbols
  pub go_on : {p s : List Symbol} {gives from : Values p → V} {next : Values s → V} {old mid new : Tokens}
      → Pending source l of p gives old mid → Pending source p from s next mid new
      → ((us : Values p) → from us ≡ gives us) → Pending source l of s next old new
  go_on a b e = record {
    derives = λ fine.
        let i = b.derives fine in
        let j = a.derives i.0 in (
          j.0,
          λ r ws d.
              let x = i.1 r ws d in
              let y = j.1 r x.0 x.1 in
              (y.0, y.1, x.2 ∙ e x.0 ∙ y.2),
        );
    leads = λ q r h. a.leads q r (b.leads q r h);
    shorter = omega (arith, a.shorter, b.shorter);
    ready = b.ready;
  }

  -- nothing is read, and this holds
  pub keep : {P : Type 0} {p : List Symbol} {gives : Values p → V} (next : Values p → V) {old mid new : Tokens}
      → Pending source l of p gives old mid → Keeps source P mid new
      → (P → (vs : Values p) → next vs ≡ gives vs) → Pending source l of p next old new
  keep {p = p} next {old = old} a b e = record {
    derives = λ fine.
        let i = b.holds fine in
        let j = a.derives i.0 in (
          j.0,
          λ r vs d.
              let y = j.1 r vs (subst (λ ts. DerivesAll source.text.now IsNestable p ts r vs) i.1 d) in
              (y.0, y.1, e i.2 vs ∙ y.2),
        );
    leads = λ q r h. a.leads q r (b.leads (p ++ q) r h);
    shorter = omega (arith, a.shorter, b.shorter);
    ready = b.ready;
  }

  -- the first token is looked at
  pub look_at : {s : Symbol} {m : List Symbol} {gives : Values (s ∷ m) → V} {old mid new : Tokens} {t : Token}
      → Pending source l of (s ∷ m) gives old mid → Looks source mid new t → Pending source l of (s ∷ m) gives old new
  look_at {s = s} {m = m} {old = old} a b = record {
    derives = λ fine.
        let i = b.same fine in
        let j = a.derives i.0 in
        (j.0, λ r vs d. j.1 r vs (subst (λ ts. DerivesAll source.text.now IsNestable (s ∷ m) ts r vs) i.1 d));
    leads = λ q r h. a.leads q r (b.leads s (m ++ q) r h);
    shorter = omega (arith, a.shorter, b.shorter);
    ready = b.ready;
  }

  -- a symbol takes a token by this row
  pub take_row : {s : Symbol} {k : Kind} {p : List Symbol} (m : List Symbol) {gives : Values (s ∷ m) → V}
      {old mid new : Tokens} {t : Token} (row : Row s k p) → look (rows s) k ≡ Some (row_entry k p row)
      → allows (Some nesting) (part s) ≡ true → MayBegin IsNestable (part s) (t ∷ new.rest.now) → t.kind ≡ k
      → Pending source l of (s ∷ m) gives old mid → Takes source t mid new
      → Pending source l of (p ++ m)
      (λ vs. gives (build source.text.now row t (split p m vs).0, (split p m vs).1)) old new
  take_row {s = s} {k = k} {p = p} m {gives = gives} {mid = mid} {new = new} {t = t} row found allowed may same a b =
      record {
        derives = λ fine.
            let j = a.derives (back_of b.failed ∙ fine) in (
              j.0,
              λ r vs d.
                  let i = split_all p m d in
                  j.1 r (build source.text.now row t (split p m vs).0, (split p m vs).1)
                  (and (takes_by row found may same b.all i.1) i.2),
            );
        leads = λ q r h. a.leads q r (ends_by source mid.failed new.failed mid.rest.now new.rest.now (s ∷ m ++ q)
            (p ++ (m ++ q)) r b.failed
            (λ _. ap (λ ts. breaks source ts (s ∷ m ++ q)) b.all
            ∙ step_takes source s t new.rest.now (row_entry k p row) (ap (look (rows s)) same ∙ found) allowed (m ++ q))
            (subst (λ l. Ends source new l r) (append_assoc p m q) h));
        shorter = omega (arith, a.shorter, b.less);
        ready = b.ready;
      }

  -- a symbol stands for nothing before this token
  pub leave : {s : Symbol} {m : List Symbol} {gives : Values (s ∷ m) → V} {old mid new : Tokens} {t : Token}
      {v : Value s} → Pending source l of (s ∷ m) gives old mid → Looks source mid new t
      → (new.failed ≡ None → look (rows s) t.kind ≡ None) → gap s t ≡ Some v
      → Pending source l of m (λ vs. gives (v, vs)) old new
  leave {s = s} {m = m} {mid = mid} {new = new} {t = t} {v = v} a b absent g = record {
    derives = λ fine.
        let (mid_fine, same, (u, begins)) = b.same fine in
        let j = a.derives mid_fine in (
          j.0,
          λ r vs d. j.1 r (v, vs) (and (subst (λ ts. Derives source.text.now IsNestable s ts new.rest.now v) same
              (subst (λ ts. Derives source.text.now IsNestable s ts ts v) (back_of begins) (skips t (absent fine) g)))
              d),
        );
    leads = λ q r h. a.leads q r (b.leads s (m ++ q) r (ends_by source new.failed new.failed new.rest.now new.rest.now
        (s ∷ m ++ q) (m ++ q) r refl
        (λ fine. let (_, _, (u, begins)) = b.same fine in
        ap (λ ts. breaks source ts (s ∷ m ++ q)) begins ∙ step_skips source s t u v (absent fine) g (m ++ q)
        ∙ ap (λ ts. breaks source ts (m ++ q)) (back_of begins)) h));
    shorter = omega (arith, a.shorter, b.shorter);
    ready = b.ready;
  }

  -- the reading fails at this token
  pub fail_at : {s : Symbol} {m p : List Symbol} {gives : Values (s ∷ m) → V} {next : Values p → V}
      {old mid seen after new : Tokens} {t : Token} {why : Halt} (f : Refusal)
      → Pending source l of (s ∷ m) gives old mid → Looks source mid seen t
      → ((u : List Token) (q : List Symbol) → breaks source (t ∷ u) (s ∷ q) ≡ Some f) → after.failed ≡ seen.failed
      → why ≡ halt.Refused f → Fails source why after new → Pending source l of p next old new
  fail_at {s = s} {m = m} {p = p} {mid = mid} {seen = seen} {after = after} {new = new} {why = why} f a b e same is c =
      let failed : new.failed ≡ first_failure seen.failed (halt.Refused f) =
      c.failed ∙ ap (λ o. first_failure o why) same ∙ ap (first_failure seen.failed) is in
      record {
        derives = λ fine. has_failed seen.failed new.failed (halt.Refused f) failed fine;
        leads = λ q r h. a.leads q r (b.leads s (m ++ q) r (ends_failed source seen.failed new.failed f seen.rest.now
            new.rest.now (s ∷ m ++ q) (p ++ q) r failed
            (λ fine. let (_, _, (u, begins)) = b.same fine in
            ap (λ ts. breaks source ts (s ∷ m ++ q)) begins ∙ e u (m ++ q)) h));
        shorter = omega (arith, a.shorter, ap length c.none);
        ready = c.ready;
      }

  -- other symbols stand for one
  pub turn : {s : Symbol} (p m : List Symbol) (value : Values p → Value s)
      {gives : Values (s ∷ m) → V} {old new : Tokens} → Pending source l of (s ∷ m) gives old new
      → (new.failed ≡ None → (q : List Symbol) → breaks source new.rest.now (s ∷ q)
      ≡ breaks source new.rest.now (p ++ q))
      → (new.failed ≡ None → (r : List Token) (vs : Values p)
      → DerivesAll source.text.now IsNestable p new.rest.now r vs
      → Derives source.text.now IsNestable s new.rest.now r (value vs))
      → Pending source l of (p ++ m) (λ vs. gives (value (split p m vs).0, (split p m vs).1)) old new
  turn {s = s} p m value {new = new} a x y = record {
    derives = λ fine.
        let j = a.derives fine in (
          j.0,
          λ r vs d.
              let i = split_all p m d in
              j.1 r (value (split p m vs).0, (split p m vs).1) (and (y fine i.0 (split p m vs).0 i.1) i.2),
        );
    leads = λ q r h. a.leads q r (ends_by source new.failed new.failed new.rest.now new.rest.now (s ∷ m ++ q)
        (p ++ (m ++ q)) r refl (λ fine. x fine (m ++ q)) (subst (λ l. Ends source new l r) (append_assoc p m q) h));
    shorter = a.shorter;
    ready = a.ready;
  }

  -- the same, before this token
  pub turn_at : {s : Symbol} (p m : List Symbol) (value : Values p → Value s) {gives : Values (s ∷ m) → V}
      {old mid new : Tokens} {t : Token} → Pending source l of (s ∷ m) gives old mid → Looks source mid new t
      → (new.failed ≡ None → (u : List Token) (q : List Symbol)
      → breaks source (t ∷ u) (s ∷ q) ≡ breaks source (t ∷ u) (p ++ q))
      → (new.failed ≡ None → (u r : List Token) (vs : Values p)
      → DerivesAll source.text.now IsNestable p (t ∷ u) r vs
      → Derives source.text.now IsNestable s (t ∷ u) r (value vs))
      → Pending source l of (p ++ m) (λ vs. gives (value (split p m vs).0, (split p m vs).1)) old new
  turn_at {s = s} p m value {t = t} a b x y = turn p m value (look_at a b)
      (λ fine q. let (_, _, (u, begins)) = b.same fine in
      ap (λ ts. breaks source ts (s ∷ q)) begins ∙ x fine u q
      ∙ ap (λ ts. breaks source ts (p ++ q)) (back_of begins))
      (λ fine r vs d. let (_, _, (u, begins)) = b.same fine in
      subst (λ ts. Derives source.text.now IsNestable s ts r (value vs)) (back_of begins)
      (y fine u r vs (subst (λ ts. DerivesAll source.text.now IsNestable p ts r vs) begins d)))

  -- a token is passed
  pub pass : {k : Kind} {m : List Symbol} {gives : Values (AToken k ∷ m) → V} {old mid new : Tokens} {t : Token}
      → Pending source l of (AToken k ∷ m) gives old mid → Expects source k mid new t
      → Pending source l of m (λ vs. gives (tt, vs)) old new
  pass {k = k} {m = m} {new = new} {t = t} a b = record {
    derives = λ fine.
        let (mid_fine, same, all) = b.ends fine in
        let j = a.derives mid_fine in (
          j.0,
          λ r vs d.
              j.1 r (tt, vs) (and (takes_by token (look_token k k true (kind_is-same k)) tt same all none) d),
        );
    leads = λ q r h. a.leads q r (b.leads (m ++ q) r h);
    shorter = omega (arith, a.shorter, b.shorter);
    ready = b.ready;
  }

  -- a symbol takes a token that has to come first
  pub enter : {s : Symbol} {k : Kind} {p : List Symbol} (m : List Symbol) {gives : Values (s ∷ m) → V}
      {old mid new : Tokens} {t : Token} (row : Row s k p) → look (rows s) k ≡ Some (row_entry k p row)
      → part s ≡ None
      → ((t : Token) (u : List Token) → mid.failed ≡ None → mid.rest.now ≡ t ∷ u
      → look (rows s) t.kind ≡ cond (kind_is k t.kind) (Some (row_entry k p row)) None)
      → ((t : Token) → gap s t ≡ None) → Pending source l of (s ∷ m) gives old mid → Expects source k mid new t
      → Pending source l of (p ++ m)
      (λ vs. gives (build source.text.now row t (split p m vs).0, (split p m vs).1)) old new
  enter {s = s} {k = k} {p = p} m {mid = mid} {new = new} {t = t} row found whole h g a b = record {
    derives = λ fine.
        let (mid_fine, same, all) = b.ends fine in
        let j = a.derives mid_fine in (
          j.0,
          λ r vs d.
              let i = split_all p m d in
              j.1 r (build source.text.now row t (split p m vs).0, (split p m vs).1)
              (and (takes_by row found (subst (λ p. MayBegin IsNestable p (t ∷ new.rest.now)) (back_of whole) tt) same
              all i.1)
              i.2),
        );
    leads = λ q r x. a.leads q r (ends_by source mid.failed mid.failed mid.rest.now mid.rest.now (s ∷ m ++ q)
        (AToken k ∷ p ++ (m ++ q)) r refl
        (λ fine. closes_all source s k p row mid.rest.now (λ t u e. h t u fine e) g whole (m ++ q))
        (b.leads (p ++ (m ++ q)) r (subst (λ l. Ends source new l r) (append_assoc p m q) x)));
    shorter = omega (arith, a.shorter, b.shorter);
    ready = b.ready;
  }

  -- a symbol takes the token that ends a list
  pub close : {s : Symbol} {j k : Kind} {p : List Symbol} (m : List Symbol) {gives : Values (s ∷ m) → V}
      {old mid new : Tokens} (row : Row s k p) → look (rows s) k ≡ Some (row_entry k p row) → part s ≡ None
      → ((t : Token) → kind_is j t.kind ≡ false
      → look (rows s) t.kind ≡ cond (kind_is k t.kind) (Some (row_entry k p row)) None)
      → ((t : Token) → gap s t ≡ None) → Pending source l of (s ∷ m) gives old mid → (h : Closes source j k mid new)
      → Pending source l of (p ++ m)
      (λ vs. gives (build source.text.now row h.token (split p m vs).0, (split p m vs).1)) old new
  close {s = s} {j = j} {k = k} {p = p} m {old = old} {mid = mid} {new = new} row found whole e g a h =
      enter m row found whole
      (λ t u fine begins.
      let (_, _, (v, starts)) = h.passes.looks.same fine in
      let same : h.passes.token ≡ t = cc (starts, begins) in
      e t (subst (λ t. kind_is j t.kind ≡ false) same (h.passes.differs fine)))
      g (look_at a h.passes.looks) h.expects

-- which of both it was
pub passed : {source : Source} {k : Kind} {old new : Tokens} {b : Bool} → Passes source k old new b → b ≡ true
    → (t : Token) × (t.kind ≡ k) × Takes source t old new
passed {source} {k} {old} {new} h e = subst (Passes source k old new) e h

pub not_passed : {source : Source} {k : Kind} {old new : Tokens} {b : Bool} → Passes source k old new b → b ≡ false
    → Differs source k old new
not_passed {source} {k} {old} {new} h e = subst (Passes source k old new) e h

pub went_on : {source : Source} {j : Kind} (k : Kind) {old new : Tokens} {b : Bool} → GoesOn source j k old new b
    → b ≡ true → (t : Token) × (t.kind ≡ j) × Takes source t old new
went_on {source} {j} k {old} {new} h e = subst (GoesOn source j k old new) e h

pub closed : {source : Source} {j k : Kind} {old new : Tokens} {b : Bool} → GoesOn source j k old new b → b ≡ false
    → Closes source j k old new
closed {source} {j} {k} {old} {new} h e = subst (GoesOn source j k old new) e h

-- the first token, which is of some kind, is passed
pub took : {source : Source} {old mid new : Tokens} {t : Token} → (t.kind ≡ no_kind → ⊥) → Looks source old mid t
    → Skips source mid new → Takes source t mid new
took {source} {old} {mid} {new} {t} n a b = by mid.rest.now refl where
  by : (ts : List Token) → mid.rest.now ≡ ts → Takes source t mid new
  by [] e = absurd (n (a.none (omega (arith, ap length e))))
  by (x ∷ xs) e =
      let (_, _, (u, begins)) = a.some (omega (arith, ap length e)) in
      let all : mid.rest.now ≡ t ∷ new.rest.now = begins ∙ ap (λ ts. t ∷ ts) (back_of (b.rest ∙ ap behind begins)) in
      record { failed = b.failed; all = all; less = omega (arith, ap length all); ready = b.ready }

-- a kind for which there is a row is some kind
pub some_kind : (t : Token) (s : Symbol) {k : Kind} {p : List Symbol} (row : Row s k p)
    → look (rows s) k ≡ Some (row_entry k p row) → look (rows s) no_kind ≡ None → t.kind ≡ k → t.kind ≡ no_kind → ⊥
some_kind t s {k} row found absent same e = clash ⊥ (look (rows s) t.kind) (ap (look (rows s)) same ∙ found)
    (ap (look (rows s)) e ∙ absent)

module _ {V : Type 0} {source : Source} {l : List Symbol} {of : Values l → V} where
  -- a symbol takes the token that was looked at
  pub row_at : {s : Symbol} {k : Kind} {p : List Symbol} (m : List Symbol) {gives : Values (s ∷ m) → V}
      {old mid seen new : Tokens} {t : Token} (row : Row s k p) → look (rows s) k ≡ Some (row_entry k p row)
      → look (rows s) no_kind ≡ None → allows (Some nesting) (part s) ≡ true
      → MayBegin IsNestable (part s) (t ∷ new.rest.now) → t.kind ≡ k
      → Pending source l of (s ∷ m) gives old mid → Looks source mid seen t → Skips source seen new
      → Pending source l of (p ++ m)
      (λ vs. gives (build source.text.now row t (split p m vs).0, (split p m vs).1)) old new
  row_at {s = s} m {t = t} row found absent allowed may same a b c =
      take_row m row found allowed may same (look_at a b) (took (some_kind t s row found absent same) b c)

  -- a symbol takes a token that was passed
  pub pass_row : {s : Symbol} {k : Kind} {p : List Symbol} (m : List Symbol) {gives : Values (s ∷ m) → V}
      {old mid new : Tokens} (row : Row s k p) → look (rows s) k ≡ Some (row_entry k p row) → part s ≡ None
      → Pending source l of (s ∷ m) gives old mid → (h : (t : Token) × (t.kind ≡ k) × Takes source t mid new)
      → Pending source l of (p ++ m)
      (λ vs. gives (build source.text.now row h.0 (split p m vs).0, (split p m vs).1)) old new
  pass_row {s = s} m {new = new} row found whole a h =
      take_row m row found (ap (allows (Some nesting)) whole)
      (subst (λ p. MayBegin IsNestable p (h.0 ∷ new.rest.now)) (back_of whole) tt) h.1 a h.2

  -- a symbol stands for nothing, where another token comes first
  pub leave_at : {s : Symbol} {k : Kind} {m : List Symbol} {gives : Values (s ∷ m) → V} {old mid new : Tokens}
      {v : Value s} → Pending source l of (s ∷ m) gives old mid → (h : Differs source k mid new)
      → ((t : Token) → kind_is k t.kind ≡ false → look (rows s) t.kind ≡ None) → gap s h.token ≡ Some v
      → Pending source l of m (λ vs. gives (v, vs)) old new
  leave_at a h absent g = leave a h.looks (λ fine. absent h.token (h.differs fine)) g
