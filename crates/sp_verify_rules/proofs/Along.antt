-- Along every journal each process of verified code lives: an event keeps it, for the process itself and for all
-- others.
use Rattle.std.proofs.Common.{◌≡◌, ◌≢◌, ◌⊎◌, inl, inr, ℕ, ◌-◌, ◌≤◌, ◌==◌, cond, if◌then◌else◌, List, [], ◌∷◌, ◌++◌}
use Rattle.std.proofs.Common.{length, Some, Bool, true, false, refl, sym, ap, ◌∙◌, subst, arith}
use Rattle.std.proofs.lemmas.Bool.{eqb-true}
use Rattle.std.proofs.lemmas.List.{nil_from_length}
use Rattle.sp_tree.specs.Interference.{IsMember}
use Rattle.sp_cell.specs.declared.cell.Cell.{Cell}
use Rattle.sp_cell.specs.declared.spot.Address.{Address}
use Rattle.sp_cell.proofs.FrameLaws.{is_same}
use Rattle.sp_cell.proofs.Laws.{same_map}
use Rattle.sp_cell.specs.Map.{Map, Plain}
use Rattle.sp_cell.specs.Spots.{In, NotIn}
use Rattle.sp_journal.specs.Births.{Births}
use Rattle.sp_journal.specs.Maps.{at_key}
use Rattle.sp_journal.specs.declared.entry.Birth.{Birth}
use Rattle.sp_code.specs.Machine.{Forks, Opens, Sends, Receives, Ends, Pauses, Config, At}
use Rattle.sp_code.specs.Memory.{CodeRun, Home, Memory, put_cells}
use Rattle.sp_code.specs.PlainStore.{plain}
use Rattle.sp_code.specs.System.{Condition, Absent, Working, Waits, Joins, Laid, Gone, Over, frames_of, store_of}
use Rattle.sp_code.specs.System.{on_store, after_message, parent_after_join}
use Rattle.sp_code.proofs.Queues.{number_or, at_same, at_other}
use Rattle.sp_verify_rules.specs.ProcessLife.{Base, HasActivations, StopInvariant}
use Rattle.sp_verify_rules.specs.Systems.{without_first, awaited_children, IsLive, moved_to, JoinInvariant}
use Rattle.sp_verify_rules.specs.Systems.{LivesIn, Inv}
use Rattle.sp_verify_rules.proofs.Messages.{lives_received}
use Rattle.sp_verify_rules.proofs.ChildEnds.{lives_whole, lent_rest}

pub without_length : (q : ℕ) (xs : List ℕ) → IsMember q xs → length (without_first q xs) ≡ length xs - 1
without_length q [] m = absurd m
without_length q (x ∷ xs) m = go (q == x) refl m (without_length q xs) (some xs)
  where
    some : (ys : List ℕ) → IsMember q ys → 1 ≤ length ys
    some [] j = absurd j
    some (y ∷ ys) j = omega arith

    go : (t : Bool) → (q == x) ≡ t → IsMember q (x ∷ xs) → (IsMember q xs → length (without_first q xs) ≡ length xs - 1)
        → (IsMember q xs → 1 ≤ length xs) → length (cond t xs (x ∷ without_first q xs)) ≡ length (x ∷ xs) - 1
    go true e m h l = omega arith
    go false e (inl i) h l = absurd (cc (sym e ∙ is_same q x i))
    go false e (inr m) h l = let a = h m in let b = l m in omega (arith, a, b)

pub without_has : (q r : ℕ) (xs : List ℕ) → r ≢ q → IsMember r xs → IsMember r (without_first q xs)
without_has q r [] d m = absurd m
without_has q r (x ∷ xs) d m = go (q == x) refl m (without_has q r xs d)
  where
    go : (t : Bool) → (q == x) ≡ t → IsMember r (x ∷ xs) → (IsMember r xs → IsMember r (without_first q xs))
        → IsMember r (cond t xs (x ∷ without_first q xs))
    go true e (inl i) h = absurd (d (i ∙ sym (eqb-true q x e)))
    go true e (inr m) h = m
    go false e (inl i) h = inl i
    go false e (inr m) h = inr (h m)

without_members : (q r : ℕ) (xs : List ℕ) → IsMember r (without_first q xs) → IsMember r xs
without_members q r [] m = m
without_members q r (x ∷ xs) m = go (q == x) m (without_members q r xs)
  where
    go : (t : Bool) → IsMember r (cond t xs (x ∷ without_first q xs))
        → (IsMember r (without_first q xs) → IsMember r xs)
        → IsMember r (x ∷ xs)
    go true m h = inr m
    go false (inl e) h = inl e
    go false (inr m) h = inr (h m)

module _ (g : CodeRun) {Area : Type 0} (H : Area → List Home) (E : Area → ℕ → Type 0) (T : List Area
    → Config (Memory Plain) → Type 0) (Room Cells : ℕ → ℕ → Type 0)
    (rooms : (k n m : ℕ) → Room k n → Cells k m
    → m ≤ n) (t_store : (us : List Area) (c : Config (Memory Plain)) (f : Plain → Plain)
    → ((p : Plain) → (f p).moved ≡ p.moved) → T us c → T us (on_store f c)) where
  abbrev pub Ok : (ℕ → Condition Plain) → Births → Type 0
  Ok f b = Inv g H E T Room Cells f b

  -- one process is in another condition, which awaits as many children
  pub becomes_ok : (f : ℕ → Condition Plain) (b : Births) (i : Ok f b) (q : ℕ) (x : Condition Plain)
      → LivesIn g H E T Room Cells i.base (i.base q) (i.children q) x → awaited_children x ≡ awaited_children (f q)
      → (IsLive x → IsLive (f q))
      → (b.processes ≤ q → x ≡ Absent) → Ok (at_key ◌==◌ q x f) b
  becomes_ok f b i q x fine same live young = record {
    base = i.base;
    children = i.children;
    each = λ r. one r (number_or q r);
    count = λ r. number r (number_or q r);
    all = λ r y e l. i.all r y e (was r (number_or q r) l);
    young = λ r le. none r le (number_or q r);
    known = i.known;
    older = i.older;
  }
    where
      one : (r : ℕ) → (q ≡ r) ⊎ ((q ≢ r) × ((q == r) ≡ false))
          → LivesIn g H E T Room Cells i.base (i.base r) (i.children r) (at_key ◌==◌ q x f r)
      one r (inl e) = subst (λ z. LivesIn g H E T Room Cells i.base (i.base z) (i.children z) (at_key ◌==◌ q x f z)) e
          (subst (λ y. LivesIn g H E T Room Cells i.base (i.base q) (i.children q) y) (sym (at_same f q x)) fine)
      one r (inr d) = subst (λ y. LivesIn g H E T Room Cells i.base (i.base r) (i.children r) y)
          (sym (at_other f q r x d.0)) (i.each r)

      number : (r : ℕ) → (q ≡ r) ⊎ ((q ≢ r) × ((q == r) ≡ false))
          → length (i.children r) ≡ awaited_children (at_key ◌==◌ q x f r)
      number r (inl e) = subst (λ z. length (i.children z) ≡ awaited_children (at_key ◌==◌ q x f z)) e (i.count q
          ∙ sym same
          ∙ ap awaited_children (sym (at_same f q x)))
      number r (inr d) = i.count r ∙ ap awaited_children (sym (at_other f q r x d.0))

      was : (r : ℕ) → (q ≡ r) ⊎ ((q ≢ r) × ((q == r) ≡ false)) → IsLive (at_key ◌==◌ q x f r) → IsLive (f r)
      was r (inl e) l = subst (λ z. IsLive (f z)) e
          (live (subst (λ y. IsLive y) (at_same f q x) (subst (λ z. IsLive (at_key ◌==◌ q x f z)) (sym e) l)))
      was r (inr d) l = subst (λ y. IsLive y) (at_other f q r x d.0) l

      none : (r : ℕ) → b.processes ≤ r → (q ≡ r) ⊎ ((q ≢ r) × ((q == r) ≡ false)) → at_key ◌==◌ q x f r ≡ Absent
      none r le (inl e) = subst (λ z. at_key ◌==◌ q x f z ≡ Absent) e (at_same f q x
          ∙ young (subst (λ z. b.processes ≤ z) (sym e) le))
      none r le (inr d) = at_other f q r x d.0 ∙ i.young r le

  -- ---- messages

  -- where it waits to receive, the message has room
  abbrev HasRoom : List Cell → Condition Plain → Type 0
  HasRoom cs x = (d k : ℕ) (p : Address) (c : Config (Memory Plain)) → x ≡ Waits (Receives d k p) c → (n : ℕ) → Room k n
      → length cs ≤ n

  received_fine : (base : ℕ → Base g H E T) (b : Base g H E T) (rs : List ℕ) (cs : List Cell) (x : Condition Plain)
      → LivesIn g H E T Room Cells base b rs x → HasRoom cs x
      → LivesIn g H E T Room Cells base b rs (after_message plain g cs x)
  received_fine base b rs cs Absent f r = tt
  received_fine base b rs cs (Working c) f r = f
  received_fine base b rs cs (Waits (Receives d k p) (At pc st n)) (us, lives, stands, stop_holds) r =
      go us lives stands stop_holds
    where
      go : (us : List Area) → HasActivations g H E T b us (At pc st n) → T us (At pc st n)
          → StopInvariant g H E T Room Cells (Receives d k p) us (At pc st n) → (vs : List Area)
          × HasActivations g H E T b vs (on_store (put_cells plain p cs) (At pc st n))
          × T vs (on_store (put_cells plain p cs) (At pc st n))
      go [] l t w = absurd w
      go (a ∷ us) l t ((left, room, aims), _) = (
        a ∷ us,
        lives_received g H E T b a us pc st n p left l aims cs
            (r d k p (At pc st n) refl left room),
        t_store (a ∷ us) (At pc st n) (put_cells plain p cs) (λ m. refl) t,
      )
  received_fine base b rs cs (Waits (Sends d k bs) c) f r = (f.0, f.1, f.2)
  received_fine base b rs cs (Waits (Forks t v n) c) f r = (f.0, f.1, f.2)
  received_fine base b rs cs (Waits (Opens p) c) f r = (f.0, f.1, f.2)
  received_fine base b rs cs (Waits Ends c) f r = (f.0, f.1, f.2)
  received_fine base b rs cs (Waits Pauses c) f r = (f.0, f.1, f.2)
  received_fine base b rs cs (Joins left c) f r = f
  received_fine base b rs cs (Laid c) f r = tt
  received_fine base b rs cs Gone f r = tt
  received_fine base b rs cs (Over c) f r = tt

  received_awaits : (cs : List Cell) (x : Condition Plain) → awaited_children (after_message plain g cs x)
      ≡ awaited_children x
  received_awaits cs Absent = refl
  received_awaits cs (Working c) = refl
  received_awaits cs (Waits (Receives d k p) c) = refl
  received_awaits cs (Waits (Sends d k bs) c) = refl
  received_awaits cs (Waits (Forks t v n) c) = refl
  received_awaits cs (Waits (Opens p) c) = refl
  received_awaits cs (Waits Ends c) = refl
  received_awaits cs (Waits Pauses c) = refl
  received_awaits cs (Joins left c) = refl
  received_awaits cs (Laid c) = refl
  received_awaits cs Gone = refl
  received_awaits cs (Over c) = refl

  received_live : (cs : List Cell) (x : Condition Plain) → IsLive (after_message plain g cs x) → IsLive x
  received_live cs Absent l = l
  received_live cs Gone l = l
  received_live cs (Over c) l = l
  received_live _ _ _ = tt

  -- the message goes over to the one that waits, and the other goes on
  pub meets_ok : (f : ℕ → Condition Plain) (b : Births) (i : Ok f b) (q z : ℕ) (cs : List Cell) (x : Condition Plain)
      → HasRoom cs (f z) → LivesIn g H E T Room Cells i.base (i.base q) (i.children q) x
      → awaited_children x ≡ awaited_children (f q)
      → IsLive (f q) → (b.processes ≤ q → x ≡ Absent)
      → Ok (at_key ◌==◌ q x (at_key ◌==◌ z (after_message plain g cs (f z)) f)) b
  unfolding becomes_ok
  meets_ok f b i q z cs x room fine same live young = becomes_ok
      (at_key ◌==◌ z (after_message plain g cs (f z)) f) b one q x fine (same
      ∙ sym (still (number_or z q))) (λ l. alive (number_or z q)) young
    where
      one : Ok (at_key ◌==◌ z (after_message plain g cs (f z)) f) b
      one = becomes_ok f b i z (after_message plain g cs (f z))
          (received_fine i.base (i.base z) (i.children z) cs (f z) (i.each z) room) (received_awaits cs (f z))
          (received_live cs (f z)) (λ le. ap (after_message plain g cs) (i.young z le))

      still : (z ≡ q) ⊎ ((z ≢ q) × ((z == q) ≡ false))
          → awaited_children (at_key ◌==◌ z (after_message plain g cs (f z)) f q) ≡ awaited_children (f q)
      still (inl e) = subst (λ y. awaited_children (at_key ◌==◌ z (after_message plain g cs (f z)) f y)
          ≡ awaited_children (f y)) e
          (ap awaited_children (at_same f z (after_message plain g cs (f z))) ∙ received_awaits cs (f z))
      still (inr d) = ap awaited_children (at_other f z q (after_message plain g cs (f z)) d.0)

      on : (y : Condition Plain) → IsLive y → IsLive (after_message plain g cs y)
      on Absent l = l
      on (Working c) l = tt
      on (Waits (Receives d k p) c) l = tt
      on (Waits (Sends d k bs) c) l = tt
      on (Waits (Forks t v n) c) l = tt
      on (Waits (Opens p) c) l = tt
      on (Waits Ends c) l = tt
      on (Waits Pauses c) l = tt
      on (Joins left c) l = tt
      on (Laid c) l = tt
      on Gone l = l
      on (Over c) l = l

      alive : (z ≡ q) ⊎ ((z ≢ q) × ((z == q) ≡ false)) → IsLive (at_key ◌==◌ z (after_message plain g cs (f z)) f q)
      alive (inl e) = subst (λ y. IsLive (at_key ◌==◌ z (after_message plain g cs (f z)) f y)) e
          (subst (λ y. IsLive y) (sym (at_same f z (after_message plain g cs (f z))))
          (on (f z) (subst (λ y. IsLive (f y)) (sym e) live)))
      alive (inr d) = subst (λ y. IsLive y) (sym (at_other f z q (after_message plain g cs (f z)) d.0)) live

  -- ---- ends

  -- only what is asked of the bases of the children matters
  module _ (base next : ℕ → Base g H E T) where
    moved_alike : (rs : List ℕ) → ((r : ℕ) → IsMember r rs → next r ≡ base r)
        → moved_to g H E T Room Cells next rs ≡ moved_to g H E T Room Cells base rs
    moved_alike [] h = refl
    moved_alike (r ∷ rs) h = ap (λ (x : Base g H E T). x.moved ++ moved_to g H E T Room Cells next rs) (h r (inl refl))
        ∙ ap (λ ys. (base r).moved ++ ys) (moved_alike rs (λ x m. h x (inr m)))

    joins_alike : (b : Base g H E T) (rs : List ℕ) (c : Config (Memory Plain))
        → ((r : ℕ) → IsMember r rs → next r ≡ base r) → JoinInvariant g H E T Room Cells base b rs c
        → JoinInvariant g H E T Room Cells next b rs c
    joins_alike b rs c h j = record {
      area = j.area;
      callers = j.callers;
      whole = j.whole;
      lives = j.lives;
      stands = j.stands;
      lent = record {
        away = λ q i. j.lent.away q (subst (In q) (moved_alike rs h) i);
        rest = λ q o. j.lent.rest q (subst (NotIn q) (moved_alike rs h) o);
        distinct = subst Rattle.sp_cell.specs.Spots.IsDistinct (sym (moved_alike rs h)) j.lent.distinct;
        transferred = λ r m q i. subst
            (λ (x : Base g H E T). Rattle.sp_verify_rules.specs.Systems.MovedSpot g H E T Room Cells j.area
            (frames_of c) x q) (sym (h r m))
            (j.lent.transferred r m q (subst (λ (x : Base g H E T). In q x.moved) (h r m) i));
      };
    }

    pub fine_alike : (b : Base g H E T) (rs : List ℕ) (x : Condition Plain)
        → ((r : ℕ) → IsMember r rs → next r ≡ base r) → LivesIn g H E T Room Cells base b rs x
        → LivesIn g H E T Room Cells next b rs x
    fine_alike b rs (Working c) h f = f
    fine_alike b rs (Waits stop c) h f = f
    fine_alike b rs (Joins left c) h f = joins_alike b rs c h f
    fine_alike _ _ _ _ _ = tt

  -- the parent after a child's end: it goes on, or joins the others
  module _ (base : ℕ → Base g H E T) (b : Base g H E T) (rs : List ℕ) (r : ℕ) (mine : IsMember r rs) (a : Area) (qc : ℕ)
      (qt : List Rattle.sp_code.specs.Machine.Entry) (c : Memory Plain)
      (l : HasActivations g H E T (base r) (a ∷ []) (At qc qt c)) where
    rejoined_fine : (left : ℕ) (d : Config (Memory Plain)) → length rs ≡ left
        → JoinInvariant g H E T Room Cells base b rs d
        → LivesIn g H E T Room Cells base b (without_first r rs) (parent_after_join plain g (At qc qt c) (Joins left d))
    rejoined_fine left (At pc st n) e j = go (left == 1) refl
      where
        joined : JoinInvariant g H E T Room Cells base b (without_first r rs)
            (on_store (λ m. plain.joined m c.store) (At pc st n))
        joined = record {
          area = j.area;
          callers = j.callers;
          whole = Rattle.sp_cell.specs.Fork.with_contents c.store.map c.store.moved j.whole;
          lives = lives_whole g H E T Room Cells base b rs r mine pc qc st qt n c j a l;
          stands = t_store (j.area ∷ j.callers) (At pc st n) (λ m. plain.joined m c.store)
              (λ m. refl) j.stands;
          lent = lent_rest g H E T Room Cells base b rs r mine pc qc st qt n c j a l;
        }

        back : without_first r rs ≡ [] → joined.whole ≡ (plain.joined n.store c.store).map
        back gone = sym (same_map (plain.joined n.store c.store).map joined.whole
            (λ q. joined.lent.rest q (subst (λ xs. NotIn q (moved_to g H E T Room Cells base xs)) (sym gone) tt)))

        go : (t : Bool) → (left == 1) ≡ t
            → LivesIn g H E T Room Cells base b (without_first r rs)
            (if t then Working (on_store (λ m. plain.joined m c.store) (At pc st n)) else Joins (left - 1)
            (on_store (λ m. plain.joined m c.store) (At pc st n)))
        go true is =
            let one : left ≡ 1 = eqb-true left 1 is in
            let gone : without_first r rs ≡ [] = nil_from_length (without_first r rs) (without_length r rs mine
            ∙ ap (λ k. k - 1) (e ∙ one)) in (
              j.area ∷ j.callers,
              subst (λ (m : Map). HasActivations g H E T b (j.area ∷ j.callers)
                  (At pc st (record n { store = record { map = m; own = n.store.own; moved = n.store.moved } })))
                  (back gone) joined.lives,
              joined.stands,
            )
        go false is = joined

  rejoined_awaits : (c : Config (Memory Plain)) (left : ℕ) (d : Config (Memory Plain))
      → awaited_children (parent_after_join plain g c (Joins left d)) ≡ left - 1
  rejoined_awaits c left d = go (left == 1) refl
    where
      go : (t : Bool) → (left == 1) ≡ t
          → awaited_children (if t then Working (on_store (λ m. plain.joined m (store_of c)) d) else Joins (left - 1)
          (on_store (λ m. plain.joined m (store_of c)) d)) ≡ left - 1
      go true e = ap (λ k. k - 1) (sym (eqb-true left 1 e))
      go false e = refl

  -- a child that ends: it is gone, and its parent has it no more among its children
  pub ends_ok : (f : ℕ → Condition Plain) (b : Births) (i : Ok f b) (q : ℕ) (x : Birth) (a : Area) (qc : ℕ)
      (qt : List Rattle.sp_code.specs.Machine.Entry) (c : Memory Plain) → b.birth q ≡ Some x → IsLive (f q)
      → awaited_children (f q) ≡ 0
      → HasActivations g H E T (i.base q) (a ∷ []) (At qc qt c)
      → Ok (at_key ◌==◌ x.parent (parent_after_join plain g (At qc qt c) (f x.parent)) (at_key ◌==◌ q Gone f)) b
  ends_ok f b i q x a qc qt c birth live none l = go (f x.parent) refl
    where
      mine : IsMember q (i.children x.parent)
      mine = i.all q x birth live

      apart : x.parent ≢ q
      apart e = let o = i.older q x birth in omega (arith, o, e)

      some : (xs : List ℕ) → IsMember q xs → length xs ≡ 0 → ⊥
      some [] m e = m
      some (y ∷ xs) m e = omega (arith, e)

      joins : (y : Condition Plain) → f x.parent ≡ y → (left : ℕ) × (d : Config (Memory Plain)) × (y ≡ Joins left d)
      joins (Joins left d) e = (left, d, refl)
      joins _ e = absurd (some (i.children x.parent) mine (i.count x.parent ∙ ap awaited_children e))

      go : (y : Condition Plain) → f x.parent ≡ y
          → Ok (at_key ◌==◌ x.parent (parent_after_join plain g (At qc qt c) y) (at_key ◌==◌ q Gone f)) b
      go y is =
          let w = joins y is in
          subst (λ z. Ok (at_key ◌==◌ x.parent (parent_after_join plain g (At qc qt c) z) (at_key ◌==◌ q Gone f)) b)
          (sym w.2)
          (with_left w.0 w.1 (is ∙ w.2))
        where
          with_left : (left : ℕ) (d : Config (Memory Plain)) → f x.parent ≡ Joins left d
              → Ok (at_key ◌==◌ x.parent (parent_after_join plain g (At qc qt c) (Joins left d))
              (at_key ◌==◌ q Gone f)) b
          with_left left d at = record {
            base = i.base;
            children = children;
            each = λ r. one r (number_or x.parent r);
            count = λ r. number r (number_or x.parent r);
            all = λ r y e l. every r y e (was r (number_or x.parent r) (number_or q r) l) (number_or x.parent y.parent);
            young = λ r le. none_there r le (number_or x.parent r) (number_or q r);
            known = λ r s m. i.known r s (member r s m (number_or x.parent r));
            older = i.older;
          }
            where
              children : ℕ → List ℕ
              children = at_key ◌==◌ x.parent (without_first q (i.children x.parent)) i.children

              now : Condition Plain
              now = parent_after_join plain g (At qc qt c) (Joins left d)

              after : ℕ → Condition Plain
              after = at_key ◌==◌ x.parent now (at_key ◌==◌ q Gone f)

              long : length (i.children x.parent) ≡ left
              long = i.count x.parent ∙ ap awaited_children at

              mother : LivesIn g H E T Room Cells i.base (i.base x.parent) (without_first q (i.children x.parent)) now
              mother = rejoined_fine i.base (i.base x.parent) (i.children x.parent) q mine a qc qt c l left d long
                  (subst (λ y. LivesIn g H E T Room Cells i.base (i.base x.parent) (i.children x.parent) y) at
                  (i.each x.parent))

              here : after x.parent ≡ now
              here = at_same (at_key ◌==◌ q Gone f) x.parent now

              other : (r : ℕ) → x.parent ≢ r → after r ≡ at_key ◌==◌ q Gone f r
              other r d = at_other (at_key ◌==◌ q Gone f) x.parent r now d

              mine_there : children x.parent ≡ without_first q (i.children x.parent)
              mine_there = at_same i.children x.parent (without_first q (i.children x.parent))

              others_there : (r : ℕ) → x.parent ≢ r → children r ≡ i.children r
              others_there r d = at_other i.children x.parent r (without_first q (i.children x.parent)) d

              one : (r : ℕ) → (x.parent ≡ r) ⊎ ((x.parent ≢ r) × ((x.parent == r) ≡ false))
                  → LivesIn g H E T Room Cells i.base (i.base r) (children r) (after r)
              one r (inl e) = subst (λ z. LivesIn g H E T Room Cells i.base (i.base z) (children z) (after z)) e
                  (subst (λ xs. LivesIn g H E T Room Cells i.base (i.base x.parent) xs (after x.parent))
                  (sym mine_there)
                  (subst (λ y. LivesIn g H E T Room Cells i.base (i.base x.parent)
                  (without_first q (i.children x.parent)) y)
                  (sym here) mother))
              one r (inr d) = subst (λ xs. LivesIn g H E T Room Cells i.base (i.base r) xs (after r))
                  (sym (others_there r d.0)) (subst (λ y. LivesIn g H E T Room Cells i.base (i.base r) (i.children r) y)
                  (sym (other r d.0)) (rest (number_or q r)))
                where
                  rest : (q ≡ r) ⊎ ((q ≢ r) × ((q == r) ≡ false))
                      → LivesIn g H E T Room Cells i.base (i.base r) (i.children r) (at_key ◌==◌ q Gone f r)
                  rest (inl e) = subst (λ z. LivesIn g H E T Room Cells i.base (i.base z) (i.children z)
                      (at_key ◌==◌ q Gone f z)) e (subst
                      (λ y. LivesIn g H E T Room Cells i.base (i.base q) (i.children q) y) (sym (at_same f q Gone)) tt)
                  rest (inr o) = subst (λ y. LivesIn g H E T Room Cells i.base (i.base r) (i.children r) y)
                      (sym (at_other f q r Gone o.0)) (i.each r)

              number : (r : ℕ) → (x.parent ≡ r) ⊎ ((x.parent ≢ r) × ((x.parent == r) ≡ false))
                  → length (children r) ≡ awaited_children (after r)
              number r (inl e) = subst (λ z. length (children z) ≡ awaited_children (after z)) e (ap length mine_there
                  ∙ without_length q (i.children x.parent) mine ∙ ap (λ k. k - 1) long
                  ∙ sym (rejoined_awaits (At qc qt c) left d) ∙ ap awaited_children (sym here))
              number r (inr d) = ap length (others_there r d.0) ∙ rest (number_or q r)
                  ∙ ap awaited_children (sym (other r d.0))
                where
                  rest : (q ≡ r) ⊎ ((q ≢ r) × ((q == r) ≡ false))
                      → length (i.children r) ≡ awaited_children (at_key ◌==◌ q Gone f r)
                  rest (inl e) = subst (λ z. length (i.children z) ≡ awaited_children (at_key ◌==◌ q Gone f z)) e
                      (i.count q
                      ∙ none ∙ ap awaited_children (sym (at_same f q Gone)))
                  rest (inr o) = i.count r ∙ ap awaited_children (sym (at_other f q r Gone o.0))

              -- who lives now lived before, and is another one
              was : (r : ℕ) → (x.parent ≡ r) ⊎ ((x.parent ≢ r) × ((x.parent == r) ≡ false)) → (q ≡ r)
                  ⊎ ((q ≢ r) × ((q == r) ≡ false)) → IsLive (after r) → IsLive (f r) × (r ≢ q)
              was r (inl e) w l = (subst (λ z. IsLive (f z)) e (subst (λ y. IsLive y) (sym at) tt), λ z. apart (e ∙ z))
              was r (inr d) (inl e) l = absurd
                  (subst (λ y. IsLive y) (at_same f q Gone)
                  (subst (λ z. IsLive (at_key ◌==◌ q Gone f z)) (sym e) (subst (λ y. IsLive y) (other r d.0) l)))
              was r (inr d) (inr o) l = (
                subst (λ y. IsLive y) (at_other f q r Gone o.0)
                    (subst (λ y. IsLive y) (other r d.0) l),
                λ z. o.0 (sym z),
              )

              every : (r : ℕ) (y : Birth) → b.birth r ≡ Some y → IsLive (f r) × (r ≢ q) → (x.parent ≡ y.parent)
                  ⊎ ((x.parent ≢ y.parent) × ((x.parent == y.parent) ≡ false)) → IsMember r (children y.parent)
              every r y e l (inl s) = subst (λ z. IsMember r (children z)) s
                  (subst (IsMember r) (sym mine_there)
                  (without_has q r (i.children x.parent) l.1
                  (subst (λ z. IsMember r (i.children z)) (sym s) (i.all r y e l.0))))
              every r y e l (inr d) = subst (IsMember r) (sym (others_there y.parent d.0)) (i.all r y e l.0)

              none_there : (r : ℕ) → b.processes ≤ r → (x.parent ≡ r) ⊎ ((x.parent ≢ r) × ((x.parent == r) ≡ false))
                  → (q ≡ r) ⊎ ((q ≢ r) × ((q == r) ≡ false)) → after r ≡ Absent
              none_there r le (inl e) w = absurd
                  (not_there (f x.parent) at (subst (λ z. f z ≡ Absent) (sym e) (i.young r le)))
                where
                  not_there : (y : Condition Plain) → y ≡ Joins left d → y ≡ Absent → ⊥
                  not_there y e g = cc (sym e ∙ g)
              none_there r le (inr d) (inl e) = absurd
                  (subst (λ y. IsLive y) (i.young q (subst (λ z. b.processes ≤ z) (sym e) le)) live)
              none_there r le (inr d) (inr o) = other r d.0 ∙ at_other f q r Gone o.0 ∙ i.young r le

              member : (r s : ℕ) → IsMember s (children r) → (x.parent ≡ r)
                  ⊎ ((x.parent ≢ r) × ((x.parent == r) ≡ false)) → IsMember s (i.children r)
              member r s m (inl e) = subst (λ z. IsMember s (i.children z)) e
                  (without_members q s (i.children x.parent)
                  (subst (IsMember s) mine_there (subst (λ z. IsMember s (children z)) (sym e) m)))
              member r s m (inr d) = subst (IsMember s) (others_there r d.0) m
