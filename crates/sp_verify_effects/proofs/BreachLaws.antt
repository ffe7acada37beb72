-- What the passes find is broken, and what is broken they find.
use Rattle.std.proofs.Common.{◌≡◌, ◌⊎◌, inl, inr, refl, ap, sym, ◌∙◌, subst, ℕ, ◌<◌, List, length, Option, Some, None}
use Rattle.std.proofs.Common.{Bool, true, false, if◌then◌else◌, arith}
use Rattle.std.specs.Prelude.{slice_get, nat_lt, ◌↔◌}
use Rattle.std.proofs.lemmas.Option.{slice_get_within}
use Rattle.sp_base.proofs.Facts.{less_same_or_more}
use Rattle.sp_tree.specs.Interference.{IsMember}
use Rattle.sp_code.specs.declared.code.ChildTable.{ChildTable}
use Rattle.sp_code.specs.declared.code.ForkTable.{ForkTable}
use Rattle.sp_code.specs.declared.code.Parts.{Parts}
use Rattle.sp_verify_rules.specs.Areas.{Area, Child, entry, instr_at, table_named, table_at, child_of, child_at}
use Rattle.sp_verify_rules.specs.Areas.{entry_of_child}
use Rattle.sp_verify_rules.specs.Effects.{Does, IsEffect, Loaded, Stored, handed_to}
use Rattle.sp_verify_rules.specs.Forks as fork
use Rattle.sp_verify_rules.specs.NameRules.{BreaksV1, Names}
use Rattle.sp_verify_rules.specs.Reach.{IsArea}
use Rattle.sp_verify_rules.specs.Verdict.{BreaksV6, HasStop}
use Rattle.sp_verify_areas.specs.declared.owners.Owner.{Owner}
use Rattle.sp_verify_areas.specs.LeastPlaces.{IsLeast, Upto, earlier_of}
use Rattle.sp_verify_areas.specs.Owners.{AreOwners}
use Rattle.sp_verify_areas.proofs.Leasts.{all, least_of_same}
use Rattle.sp_verify_effects.specs.declared.effects.EffectRow.{EffectRow}
use Rattle.sp_verify_effects.specs.declared.effects.Effects.{Effects}
use Rattle.sp_verify_effects.specs.declared.facts.Effect.{Effect}
use Rattle.sp_verify_effects.specs.declared.facts.Effect.TheVariants as effect
use Rattle.sp_verify_effects.specs.Allowances.{IsGiven}
use Rattle.sp_verify_effects.specs.AskedAreas.{AsksTables, is_asked, is_below}
use Rattle.sp_verify_effects.specs.Effects.{AreEffects, AreFound, IsRowOf}
use Rattle.sp_verify_effects.specs.ChildEffects.{ChildFails, FailsAs, TableFails}
use Rattle.sp_verify_effects.proofs.Children.{child_area, child_by, name_there, table_there}

-- ---- what is known

pub below_bound : (p n : ℕ) → p < n → is_below (Some n) p ≡ true
below_bound p n l = Prim.grind (arith, l)

-- one number of which something holds, and what is found of it before: the first of them is the least
module _ (P Q : ℕ → Type 0) (n : ℕ) (known : Q n) (found : (p : ℕ) → p < n → P p → Q p)
    (finds : (p : ℕ) → p < n → Q p → P p) where
  pub known_or_before : (o : Option ℕ) → IsLeast P o → IsLeast Q (earlier_of o (Some n))
  known_or_before None h = (known, λ p l q. h p (finds p l q))
  known_or_before (Some m) h = go (nat_lt n m) refl
    where
      before : (p : ℕ) → p < m → p < n → Q p → ⊥
      before p l k q = h.1 p l (finds p k q)

      -- the other one may be the same
      same_or_less : (m < n) ⊎ ((m ≡ n) ⊎ (n < m)) → (n < m → ⊥) → Q m
      same_or_less (inl l) f = found m l h.0
      same_or_less (inr (inl e)) f = subst Q (sym e) known
      same_or_less (inr (inr l)) f = absurd (f l)

      go : (b : Bool) → nat_lt n m ≡ b → IsLeast Q (Some (if b then n else m))
      go true e = (known, λ p l q. before p (Prim.grind (arith, e, l)) l q)
      go false e = (
        same_or_less (less_same_or_more m n) (λ l. Prim.grind (arith, e, l)),
        λ p l q. before p l (Prim.grind (arith, e, l)) q,
      )

none_known : (o : Option ℕ) → earlier_of o None ≡ o
none_known None = refl
none_known (Some p) = refl

-- the same if one is known
pub least_or_known : (P Q : ℕ → Type 0) (known : Option ℕ) → ((n : ℕ) → known ≡ Some n → Q n)
    → ((p : ℕ) → is_below known p ≡ true → P p → Q p) → ((p : ℕ) → is_below known p ≡ true → Q p → P p)
    → (o : Option ℕ) → IsLeast P o → IsLeast Q (earlier_of o known)
least_or_known P Q known is found finds o h = go known refl
  where
    go : (u : Option ℕ) → known ≡ u → IsLeast Q (earlier_of o u)
    go None s = subst (IsLeast Q) (sym (none_known o))
        (least_of_same P Q o (λ p. found p (ap (λ z. is_below z p) s)) (λ p. finds p (ap (λ z. is_below z p) s)) h)
    go (Some n) s = known_or_before P Q n (is n s)
        (λ p l. found p (ap (λ z. is_below z p) s ∙ below_bound p n l))
        (λ p l. finds p (ap (λ z. is_below z p) s ∙ below_bound p n l)) o h

-- ---- V6

module _ (c : Parts) (e : Effects) (are : AreFound c e) (o : Option ℕ) (asks : AsksTables o e.asked c.forks) where
  -- the row of a child
  row : (a : Area) (q k : ℕ) (ch : ChildTable) → IsArea c (Child a q k) → child_at c q k ≡ Some ch → (d : EffectRow)
      × (slice_get e.rows ch.entry ≡ Some d) × IsRowOf c e.asked (Child a q k) d
  row a q k ch there is =
      let r = are.rows (Child a q k) there in
      (r.0, ap (slice_get e.rows) (sym (ap entry_of_child is)) ∙ r.1, r.2)

  -- what it is not handed is asked about
  asked_child : (a : Area) (q k : ℕ) (ch : ChildTable) → child_at c q k ≡ Some ch → is_below o ch.entry ≡ true
      → (d : Effect) → (IsGiven ch d → ⊥) → is_asked e.asked (entry c (Child a q k)) d ≡ true
  asked_child a q k ch is below d h =
      let n = name_there c.forks (table_named (instr_at c q)) k ch is in
      let tb = table_there c.forks n.0 k ch (sym (ap (λ (o : Option ℕ). child_of (table_at c.forks o) k) n.1) ∙ is) in
      subst (λ m. is_asked e.asked m d ≡ true) (sym (ap entry_of_child is))
      (asks n.0 tb.0 tb.1 k ch tb.2 below d h)

  module _ (a : Area) (t q k : ℕ) (ch : ChildTable) (tb : ForkTable) (is : slice_get c.forks t ≡ Some tb)
      (n : Names c t q) (here : child_at c q k ≡ Some ch) (below : is_below o ch.entry ≡ true) (d : EffectRow)
      (effects_of : IsRowOf c e.asked (Child a q k) d) where
    stores : (x : ℕ) → (IsMember x ch.moved → ⊥) → IsMember x d.stored ↔ IsEffect c (Does c) Stored (Child a q k) x
    stores x m = effects_of.stored x (asked_child a q k ch here below (effect.Stores x) m)

    loads : (x : ℕ) → (IsMember x (handed_to ch) → ⊥) → IsMember x d.loaded ↔ IsEffect c (Does c) Loaded (Child a q k) x
    loads x m = effects_of.loaded x (asked_child a q k ch here below (effect.Loads x) m)

    to_rule : FailsAs (Some d) tb.children k ch → fork.BreaksV6 c (Does c) (HasStop c) a q k ch
    to_rule (inl (inl (x, i, m))) = inl (x, (stores x m).0 i, m)
    to_rule (inl (inr (inl (x, i, s, m)))) = inr (inl (x, (loads x m).0 i, s, m))
    to_rule (inl (inr (inr h))) = inr (inr (inl h))
    to_rule (inr (j, s, l, at, h)) = inr
        (inr (inr (j, s, l, child_by c t q j s n (ap (λ (o : Option ForkTable). child_of o j) is ∙ at), h)))

    same_table : (j : ℕ) (s : ChildTable) → child_at c q j ≡ Some s → slice_get tb.children j ≡ Some s
    same_table j s e = sym (child_by_table j) ∙ e
      where
        child_by_table : (j : ℕ) → child_at c q j ≡ slice_get tb.children j
        child_by_table j = ap (λ (o : Option ℕ). child_of (table_at c.forks o) j) n
            ∙ ap (λ (o : Option ForkTable). child_of o j) is

    from_rule : fork.BreaksV6 c (Does c) (HasStop c) a q k ch → FailsAs (Some d) tb.children k ch
    from_rule (inl (x, i, m)) = inl (inl (x, (stores x m).1 i, m))
    from_rule (inr (inl (x, i, s, m))) = inl (inr (inl (x, (loads x m).1 i, s, m)))
    from_rule (inr (inr (inl h))) = inl (inr (inr h))
    from_rule (inr (inr (inr (j, s, l, at, h)))) = inr (j, s, l, same_table j s at, h)

  module _ (kept : (p : ℕ) → BreaksV1 c p → ⊥) (os : List Owner) (own : AreOwners c os) where
    v6_found : (t p : ℕ) → is_below o p ≡ true → TableFails e c.forks t p → BreaksV6 c p
    v6_found t p below (tb, is, u) = go u.item u.holds
      where
        go : (k : ℕ) → ChildFails e tb.children k p → BreaksV6 c p
        go k (ch, at, first, f) =
            let n = child_area c kept os own t k ch (ap (λ (z : Option ForkTable). child_of z k) is ∙ at) in
            let r = row n.around n.position k ch n.there n.child in (
              n.around,
              n.position,
              k,
              ch,
              n.there,
              n.child,
              first,
              to_rule n.around t n.position k ch tb is n.names n.child
                  (subst (λ m. is_below o m ≡ true) (sym first) below) r.0 r.2
                  (subst (λ (z : Option EffectRow). FailsAs z tb.children k ch) r.1 f),
            )

    v6_finds : (p : ℕ) → is_below o p ≡ true → BreaksV6 c p → Upto (TableFails e c.forks) (length c.forks) p
    v6_finds p below (a, q, k, ch, there, is, first, f) =
        let n = name_there c.forks (table_named (instr_at c q)) k ch is in
        let tb = table_there c.forks n.0 k ch (sym (ap (λ (o : Option ℕ). child_of (table_at c.forks o) k) n.1) ∙ is) in
        let r = row a q k ch there is in
        record {
          item = n.0;
          below = slice_get_within c.forks n.0 tb.0 tb.1;
          holds = (
            tb.0,
            tb.1,
            record {
              item = k;
              below = slice_get_within tb.0.children k ch tb.2;
              holds = (
                ch,
                tb.2,
                first,
                subst (λ (z : Option EffectRow). FailsAs z tb.0.children k ch) (sym r.1)
                    (from_rule a n.0 q k ch tb.0 tb.1 n.1 is (subst (λ m. is_below o m ≡ true) (sym first) below) r.0
                    r.2 f),
              );
            },
          );
        }

module _ (c : Parts) (kept : (p : ℕ) → BreaksV1 c p → ⊥) (os : List Owner) (own : AreOwners c os) where
  pub v6_least : (e : Effects) → AreEffects c e → (o : Option ℕ)
      → IsLeast (Upto (TableFails e c.forks) (length c.forks)) o → IsLeast (BreaksV6 c) o
  v6_least e are o h = all (TableFails e c.forks) (BreaksV6 c) (length c.forks) o
      (λ t p. v6_found c e are.found None are.asks.tables kept os own t p refl)
      (λ p. v6_finds c e are.found None are.asks.tables kept os own p refl) h

  -- one that is broken and what is broken before it, by effects of those before it: the first of them is the least
  module _ (e : Effects) (are : AreFound c e) (n : ℕ) (asks : AsksTables (Some n) e.asked c.forks)
      (broken : BreaksV6 c n) where
    pub v6_first : (o : Option ℕ) → IsLeast (Upto (TableFails e c.forks) (length c.forks)) o
        → IsLeast (BreaksV6 c) (earlier_of o (Some n))
    v6_first = known_or_before (Upto (TableFails e c.forks) (length c.forks)) (BreaksV6 c) n broken
        (λ p l u. v6_found c e are (Some n) asks kept os own u.item p (below_bound p n l) u.holds)
        (λ p l. v6_finds c e are (Some n) asks kept os own p (below_bound p n l))
