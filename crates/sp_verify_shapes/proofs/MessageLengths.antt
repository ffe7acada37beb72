-- Lengths of messages: what sends and receives have, what a table of lengths knows of them, and where V4 is broken.
use Rattle.std.proofs.Common.{◌≡◌, ◌≢◌, ◌⊎◌, inl, inr, ⊎_elim, refl, sym, ◌∙◌, ap, subst, ℕ, ◌+◌, ◌<◌, ◌≤◌, ◌==◌, List}
use Rattle.std.proofs.Common.{length, Option, Some, None, Bool, true, false, arith, eqb-true, eq-eqb}
use Rattle.std.specs.Prelude.{slice_get, cond, nat_lt}
use Rattle.std.specs.BTreeMap.{BTreeMap}
use Rattle.std.proofs.lemmas.Option.{slice_get_cases, none-some, same_Some}
use Rattle.sp_base.proofs.Facts.{not_true_and_false}
use Rattle.sp_code.specs.declared.instr.Instr.{Instr}
use Rattle.sp_code.specs.declared.instr.Instr.TheVariants as i
use Rattle.sp_code.specs.declared.code.Parts.{Parts}
use Rattle.sp_verify_rules.specs.Areas.{on_option, instr_at}
use Rattle.sp_verify_rules.specs.Shapes.{Shape}
use Rattle.sp_verify_rules.specs.InstructionFacts.{message_cells, cells_left}
use Rattle.sp_verify_rules.specs.Rules.{SendsAt, ReceivesAt, BreaksV4, OtherLength, NoRoom}
use Rattle.sp_verify_areas.specs.LeastPlaces.{IsLeast, earlier_of}
use Rattle.sp_verify_areas.proofs.Leasts.{least_of_same, both}
use Rattle.sp_verify_shapes.specs.declared.shapes.Shapes.{Shapes}
use Rattle.sp_verify_shapes.specs.declared.messages.Message.{Message}
use Rattle.sp_verify_shapes.specs.Stacks.{list_of}
use Rattle.sp_verify_shapes.specs.Shapes.{AreShapes}
use Rattle.sp_verify_shapes.specs.ReachRules.{shapes_at}
use Rattle.sp_verify_shapes.specs.Lengths.{of_kind, sent_by, received_by, sent_at, received_at, Differs, LacksRoom}
use Rattle.sp_verify_shapes.specs.Lengths.{length_of}
use Rattle.sp_verify_shapes.specs.Lengths.{PutsLength, PutsGreatest, AreLengths, is_longer}
use Rattle.sp_verify_shapes.proofs.ReachLaws.{some_way, brought}

-- ---- messages

made_of : (k : ℕ) (o : Option ℕ) (w : Message) → of_kind k o ≡ Some w → (k ≡ w.kind) × (o ≡ Some w.cells)
made_of k None w e = absurd (none-some w e)
made_of k (Some n) w e =
    let s : record { kind = k; cells = n } ≡ w = same_Some (record { kind = k; cells = n }) w e in
    (ap (λ (m : Message). m.kind) s, ap (λ (m : Message). Some m.cells) s)

sent_so : (c : Parts) (o : Option Instr) (ss : List Shape) (w : Message) → sent_by c o ss ≡ Some w
    → (o ≡ Some (i.Send w.kind)) × (message_cells c ss ≡ Some w.cells)
sent_so c (Some (i.Send k)) ss w e = let m = made_of k (message_cells c ss) w e in (ap (λ j. Some (i.Send j)) m.0, m.1)
sent_so c o ss w e = absurd (none-some w e)

received_so : (c : Parts) (o : Option Instr) (ss : List Shape) (w : Message) → received_by c o ss ≡ Some w
    → (o ≡ Some (i.Receive w.kind)) × (cells_left c ss ≡ Some w.cells)
received_so c (Some (i.Receive k)) ss w e = let m = made_of k (cells_left c ss) w e in
    (ap (λ j. Some (i.Receive j)) m.0, m.1)
received_so c o ss w e = absurd (none-some w e)

-- what is found by a table of shapes is found with some of them
by_shapes : (f : List Shape → Option Message) (o : Option (List Shape)) (w : Message) → on_option None o f ≡ Some w
    → (ss : List Shape) × (o ≡ Some ss) × (f ss ≡ Some w)
by_shapes f None w e = absurd (none-some w e)
by_shapes f (Some ss) w e = (ss, refl, e)

pub sends : (c : Parts) (s : Shapes) → AreShapes c s → (p : ℕ) (w : Message) → sent_at c s p ≡ Some w
    → SendsAt c p w.kind w.cells
sends c s h p w e =
    let r = by_shapes (λ ss. sent_by c (instr_at c p) ss) (shapes_at s p) w e in
    let a = some_way c s h p r.0 r.1 in
    let m = sent_so c (instr_at c p) r.0 w r.2 in
    (a.0, r.0, a.1, m.0, m.1)

pub receives : (c : Parts) (s : Shapes) → AreShapes c s → (p : ℕ) (w : Message) → received_at c s p ≡ Some w
    → ReceivesAt c p w.kind w.cells
receives c s h p w e =
    let r = by_shapes (λ ss. received_by c (instr_at c p) ss) (shapes_at s p) w e in
    let a = some_way c s h p r.0 r.1 in
    let m = received_so c (instr_at c p) r.0 w r.2 in
    (a.0, r.0, a.1, m.0, m.1)

pub sent_there : (c : Parts) (s : Shapes) → AreShapes c s → (p k n : ℕ) → SendsAt c p k n
    → sent_at c s p ≡ Some (record { kind = k; cells = n })
sent_there c s h p k n (area, shapes, comes, is_send, cells) =
    ap (λ o. on_option None o (λ ss. sent_by c (instr_at c p) ss)) (brought c s h area p shapes comes)
    ∙ ap (λ o. sent_by c o shapes) is_send ∙ ap (of_kind k) cells

pub received_there : (c : Parts) (s : Shapes) → AreShapes c s → (p k n : ℕ) → ReceivesAt c p k n
    → received_at c s p ≡ Some (record { kind = k; cells = n })
received_there c s h p k n (area, shapes, comes, is_receive, cells) =
    ap (λ o. on_option None o (λ ss. received_by c (instr_at c p) ss)) (brought c s h area p shapes comes)
    ∙ ap (λ o. received_by c o shapes) is_receive ∙ ap (of_kind k) cells

-- past the code nothing is reached
pub within : (c : Parts) (s : Shapes) → AreShapes c s → (f : ℕ → List Shape → Option Message) (p : ℕ) (w : Message)
    → on_option None (shapes_at s p) (f p) ≡ Some w → p < length c.instrs
within c s h f p w e = ⊎_elim (λ r. let l = r.1 in let z = h.size in omega (arith, l, z))
    (λ r. absurd (none-some w (sym (past r.1) ∙ e))) (slice_get_cases s.at p).1
  where
    past : slice_get s.at p ≡ None → on_option None (shapes_at s p) (f p) ≡ None
    past g = ap (λ o. on_option None (on_option None (on_option None o (λ v. v)) (λ n. Some (list_of s.stacks n)))
        (f p)) g

-- ---- tables

-- of one instruction more
last : (n q : ℕ) → q < n + 1 → (q < n) ⊎ (q ≡ n)
last n q l = go (nat_lt q n) refl
  where
    go : (t : Bool) → nat_lt q n ≡ t → (q < n) ⊎ (q ≡ n)
    go true e = inl (Prim.grind (arith, e))
    go false e = inr (Prim.grind (arith, e, l))

pub past_none : (R : ℕ → ℕ → Type 0) (c : Parts) (s : Shapes) (n : ℕ) (m : BTreeMap ℕ ℕ) → AreLengths R c s n m
    → sent_at c s n ≡ None → AreLengths R c s (n + 1) m
past_none R c s n m h e =
    record {
      each = λ q w l f. ⊎_elim (λ g. h.each q w g f) (λ g. absurd (none-some w (sym e ∙ ap (sent_at c s) (sym g) ∙ f)))
          (last n q l);
      some = λ k x f. let r = h.some k x f in (r.0, (let l = r.1 in omega (arith, l)), r.2);
    }

pub past_kept : (R : ℕ → ℕ → Type 0) (c : Parts) (s : Shapes) (n : ℕ) (m : BTreeMap ℕ ℕ) (v : Message) (y : ℕ)
    → AreLengths R c s n m → sent_at c s n ≡ Some v
    → length_of m v.kind ≡ Some y → R v.cells y → AreLengths R c s (n + 1) m
past_kept R c s n m v y h e there good =
    record {
      each = λ q w l f. ⊎_elim (λ g. h.each q w g f)
          (λ g. at_last w (same_Some v w (sym e ∙ ap (sent_at c s) (sym g) ∙ f))) (last n q l);
      some = λ k x f. let r = h.some k x f in (r.0, (let l = r.1 in omega (arith, l)), r.2);
    }
  where
    at_last : (w : Message) → v ≡ w → (x : ℕ) × (length_of m w.kind ≡ Some x) × R w.cells x
    at_last w f = subst (λ (u : Message). (x : ℕ) × (length_of m u.kind ≡ Some x) × R u.cells x) f (y, there, good)

pub past_put : (R : ℕ → ℕ → Type 0) (c : Parts) (s : Shapes) (n : ℕ) (m o : BTreeMap ℕ ℕ) (v : Message)
    → AreLengths R c s n m → sent_at c s n ≡ Some v → PutsLength m o v
    → R v.cells v.cells → ((x z : ℕ) → length_of m v.kind ≡ Some x → R z x → R z v.cells) → AreLengths R c s (n + 1) o
past_put R c s n m o v h e puts good more = record { each = each; some = some }
  where
    is : (k : ℕ) (t : Bool) → (v.kind == k) ≡ t → length_of o k ≡ cond t (Some v.cells) (length_of m k)
    is k t f = puts k ∙ ap (λ b. cond b (Some v.cells) (length_of m k)) f

    old : (q : ℕ) (w : Message) → q < n → sent_at c s q ≡ Some w → (x : ℕ) × (length_of o w.kind ≡ Some x) × R w.cells x
    old q w l f = let r = h.each q w l f in go r.0 r.1 r.2 (v.kind == w.kind) refl
      where
        go : (x : ℕ) → length_of m w.kind ≡ Some x → R w.cells x → (t : Bool) → (v.kind == w.kind) ≡ t
            → (x : ℕ) × (length_of o w.kind ≡ Some x) × R w.cells x
        go x g b true d = (
          v.cells,
          is w.kind true d,
          more x w.cells (ap (length_of m) (eqb-true v.kind w.kind d) ∙ g)
              b,
        )
        go x g b false d = (x, is w.kind false d ∙ g, b)

    new : (x : ℕ) × (length_of o v.kind ≡ Some x) × R v.cells x
    new = (v.cells, is v.kind true (eq-eqb v.kind v.kind refl), good)

    each : (q : ℕ) (w : Message) → q < n + 1 → sent_at c s q ≡ Some w
        → (x : ℕ) × (length_of o w.kind ≡ Some x) × R w.cells x
    each q w l f =
        ⊎_elim (λ g. old q w g f)
        (λ g. subst (λ (u : Message). (x : ℕ) × (length_of o u.kind ≡ Some x) × R u.cells x)
        (same_Some v w (sym e ∙ ap (sent_at c s) (sym g) ∙ f)) new) (last n q l)

    some : (k x : ℕ) → length_of o k ≡ Some x → (q : ℕ) × (q < n + 1)
        × (sent_at c s q ≡ Some (record { kind = k; cells = x }))
    some k x f = go (v.kind == k) refl
      where
        go : (t : Bool) → (v.kind == k) ≡ t → (q : ℕ) × (q < n + 1)
            × (sent_at c s q ≡ Some (record { kind = k; cells = x }))
        go true d =
            let a = eqb-true v.kind k d in
            let b = same_Some v.cells x (sym (is k true d) ∙ f) in (
              n,
              omega arith,
              e ∙ ap (λ j. Some (record { kind = j; cells = v.cells })) a
                  ∙ ap (λ y. Some (record { kind = k; cells = y })) b,
            )
        go false d = let r = h.some k x (sym (is k false d) ∙ f) in (r.0, (let l = r.1 in omega (arith, l)), r.2)

-- ---- the rule

-- so far all messages of a type have one length
pub no_other : (c : Parts) (s : Shapes) (n : ℕ) (m : BTreeMap ℕ ℕ) → AreLengths (λ x y. x ≡ y) c s n m → (p : ℕ) → p < n
    → Differs c s p → ⊥
no_other c s n m h p l d =
    let a = h.each p d.first l d.sent in
    let before = d.before in
    let b = h.each d.earlier d.second (omega (arith, before, l)) d.too in
    let e : a.0 ≡ b.0 = same_Some a.0 b.0 (sym a.1 ∙ ap (length_of m) (sym d.kind) ∙ b.1) in
    d.apart (b.2 ∙ sym e ∙ sym a.2)

pub first_differs : (c : Parts) (s : Shapes) (n : ℕ) (m : BTreeMap ℕ ℕ) (w : Message) (x : ℕ)
    → AreLengths (λ x y. x ≡ y) c s n m → sent_at c s n ≡ Some w
    → length_of m w.kind ≡ Some x → x ≢ w.cells → IsLeast (Differs c s) (Some n)
first_differs c s n m w x h e f apart =
    let r = h.some w.kind x f in (
      record {
        first = w;
        sent = e;
        earlier = r.0;
        before = r.1;
        second = record { kind = w.kind; cells = x };
        too = r.2;
        kind = refl;
        apart = apart;
      },
      λ p l d. no_other c s n m h p l d,
    )

pub none_differs : (c : Parts) (s : Shapes) → AreShapes c s → (n : ℕ) (m : BTreeMap ℕ ℕ)
    → AreLengths (λ x y. x ≡ y) c s n m → length c.instrs ≤ n → IsLeast (Differs c s) None
none_differs c s g n m h l =
    λ p d. no_other c s n m h p
    (let b = within c s g (λ q ss. sent_by c (instr_at c q) ss) p d.first d.sent in omega (arith, b, l)) d

-- a receive lacks room where the greatest length of its type is longer
pub lacks_so : (c : Parts) (s : Shapes) → AreShapes c s → (m : BTreeMap ℕ ℕ)
    → AreLengths (λ x y. x ≤ y) c s (length c.instrs) m → (p : ℕ) → is_longer m (received_at c s p) ≡ true
    → LacksRoom c s p
lacks_so c s g m h p e = go (received_at c s p) refl e
  where
    at : (w : Message) → received_at c s p ≡ Some w → (o : Option ℕ) → length_of m w.kind ≡ o
        → on_option false o (λ x. nat_lt w.cells x) ≡ true → LacksRoom c s p
    at w f None d b = absurd (cc b)
    at w f (Some x) d b =
        let r = h.some w.kind x d in
        record {
          room = w;
          received = f;
          place = r.0;
          message = record { kind = w.kind; cells = x };
          sent = r.2;
          kind = refl;
          longer = Prim.grind (arith, b);
        }

    go : (o : Option Message) → received_at c s p ≡ o → is_longer m o ≡ true → LacksRoom c s p
    go None f b = absurd (cc b)
    go (Some w) f b = at w f (length_of m w.kind) refl b

pub lacks_there : (c : Parts) (s : Shapes) → AreShapes c s → (m : BTreeMap ℕ ℕ)
    → AreLengths (λ x y. x ≤ y) c s (length c.instrs) m → (p : ℕ) → LacksRoom c s p
    → is_longer m (received_at c s p) ≡ true
lacks_there c s g m h p l =
    let r = h.each l.place l.message (within c s g (λ q ss. sent_by c (instr_at c q) ss) l.place l.message l.sent)
    l.sent in
    let a = l.longer in
    let b = r.2 in
    let t : nat_lt l.room.cells r.0 ≡ true = Prim.grind (arith, a, b) in
    ap (is_longer m) l.received ∙ ap (λ o. on_option false o (λ x. nat_lt l.room.cells x))
    (ap (length_of m) (sym l.kind) ∙ r.1) ∙ t

pub least_length : (c : Parts) (s : Shapes) → AreShapes c s → (m n : Option ℕ) → IsLeast (Differs c s) m
    → IsLeast (LacksRoom c s) n → IsLeast (BreaksV4 c) (earlier_of m n)
least_length c s h m n f g = least_of_same (λ p. Differs c s p ⊎ LacksRoom c s p) (BreaksV4 c) (earlier_of m n) up down
    (both (Differs c s) (LacksRoom c s) m n f g)
  where
    up : (p : ℕ) → Differs c s p ⊎ LacksRoom c s p → BreaksV4 c p
    up p (inl d) =
        OtherLength d.first.kind d.first.cells d.earlier d.second.cells (sends c s h p d.first d.sent) d.before
        (subst (λ k. SendsAt c d.earlier k d.second.cells) d.kind (sends c s h d.earlier d.second d.too)) d.apart
    up p (inr l) =
        NoRoom l.room.kind l.room.cells l.place l.message.cells (receives c s h p l.room l.received)
        (subst (λ k. SendsAt c l.place k l.message.cells) l.kind (sends c s h l.place l.message l.sent)) l.longer

    down : (p : ℕ) → BreaksV4 c p → Differs c s p ⊎ LacksRoom c s p
    down p (OtherLength k x q y a l b d) =
        inl (record {
          first = record { kind = k; cells = x };
          sent = sent_there c s h p k x a;
          earlier = q;
          before = l;
          second = record { kind = k; cells = y };
          too = sent_there c s h q k y b;
          kind = refl;
          apart = d;
        })
    down p (NoRoom k x q y a b l) =
        inr (record {
          room = record { kind = k; cells = x };
          received = received_there c s h p k x a;
          place = q;
          message = record { kind = k; cells = y };
          sent = sent_there c s h q k y b;
          kind = refl;
          longer = l;
        })

-- ---- for the passes

pub past_greatest : (c : Parts) (s : Shapes) (n : ℕ) (m o : BTreeMap ℕ ℕ) (v : Message)
    → AreLengths (λ x y. x ≤ y) c s n m → sent_at c s n ≡ Some v → PutsGreatest m o v
    → AreLengths (λ x y. x ≤ y) c s (n + 1) o
past_greatest c s n m o v h e (inl (x, known, fits, same)) = subst (AreLengths (λ x y. x ≤ y) c s (n + 1)) (sym same)
    (past_kept (λ x y. x ≤ y) c s n m v x h e known fits)
past_greatest c s n m o v h e (inr r) = past_put (λ x y. x ≤ y) c s n m o v h e r.0 (omega arith)
    (λ x z f l. let g = r.1 x f in omega (arith, g, l))

-- the first length of a type
pub past_first : (c : Parts) (s : Shapes) (n : ℕ) (m o : BTreeMap ℕ ℕ) (v : Message) → AreLengths (λ x y. x ≡ y) c s n m
    → sent_at c s n ≡ Some v → length_of m v.kind ≡ None → PutsLength m o v
    → AreLengths (λ x y. x ≡ y) c s (n + 1) o
past_first c s n m o v h e none puts = past_put (λ x y. x ≡ y) c s n m o v h e puts refl
    (λ x z f l. absurd (none-some x (sym none ∙ f)))

pub first_lacks : (c : Parts) (s : Shapes) → AreShapes c s → (m : BTreeMap ℕ ℕ)
    → AreLengths (λ x y. x ≤ y) c s (length c.instrs) m → (n : ℕ) → is_longer m (received_at c s n) ≡ true
    → ((k : ℕ) → k < n → is_longer m (received_at c s k) ≡ false) → IsLeast (LacksRoom c s) (Some n)
first_lacks c s h m g n e none = (
  lacks_so c s h m g n e,
  λ p l k. not_true_and_false (is_longer m (received_at c s p)) (lacks_there c s h m g p k)
      (none p l),
)

pub none_lacks : (c : Parts) (s : Shapes) → AreShapes c s → (m : BTreeMap ℕ ℕ)
    → AreLengths (λ x y. x ≤ y) c s (length c.instrs) m → (n : ℕ) → length c.instrs ≤ n
    → ((k : ℕ) → k < n → is_longer m (received_at c s k) ≡ false) → IsLeast (LacksRoom c s) None
none_lacks c s h m g n l none =
    λ p k.
    let b = within c s h (λ q ss. received_by c (instr_at c q) ss) p k.room k.received in
    not_true_and_false (is_longer m (received_at c s p)) (lacks_there c s h m g p k) (none p (omega (arith, b, l)))

pub one_on : (P : ℕ → Bool) (n : ℕ) → ((k : ℕ) → k < n → P k ≡ false) → P n ≡ false → (k : ℕ) → k < n + 1 → P k ≡ false
one_on P n none e k l = ⊎_elim (λ g. none k g) (λ g. ap P g ∙ e) (last n k l)
