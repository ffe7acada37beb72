-- What a step evaluates comes to an end within its bound.
use Rattle.std.proofs.Common.{ℕ, ◌≤◌, Bool, true, false, List, [], ◌∷◌, Option, Some, None, length, arith}
use Rattle.std.proofs.Common.{if◌then◌else◌}
use Rattle.std.specs.Prelude.{ℤ, pos, ◌-ℤ◌, nat_abs, slice_get, int_le, ◌&&◌, ◌++◌}
use Rattle.sp_base.specs.declared.fault.Fault.{Fault}
use Rattle.sp_base.specs.declared.fault.Fault.TheVariants as fault
use Rattle.sp_tree.specs.declared.checked.KindOf.{KindOf}
use Rattle.sp_tree.specs.declared.checked.KindOf.TheVariants as kind
use Rattle.sp_tree.specs.declared.checked.Role.{Role}
use Rattle.sp_tree.specs.declared.checked.Role.TheVariants as role
use Rattle.sp_tree.specs.declared.operators.BinaryOp.{BinaryOp}
use Rattle.sp_tree.specs.declared.operators.BinaryOp.TheVariants as binary
use Rattle.sp_tree.specs.declared.operators.StandardFn.{StandardFn}
use Rattle.sp_tree.specs.declared.operators.StandardFn.TheVariants as standard
use Rattle.sp_tree.specs.Plain.{Expr, Typed, ExprForm, Number, Read, Unary, Binary, Apply, Standard, AtInput, Var}
use Rattle.sp_tree.specs.Plain.{Entire, Index, Field, Selectors, Whole, Select, ByValue, ByReference, Actuals, Nothing}
use Rattle.sp_tree.specs.Plain.{Pass, Variable}
use Rattle.sp_meaning.specs.Model.{Channel}
use Rattle.sp_meaning.specs.EffectTree.{EffectTree, Leaf, ReadThen, WriteThen, and_then}
use Rattle.sp_meaning.specs.Values.{Value, Undefined, Ordinal, Chan, Parts}
use Rattle.sp_meaning.specs.LocalWork.{Loc, LocationContent, Address, Home, OfBlock, OfIndex, Frame, RunInput}
use Rattle.sp_meaning.specs.LocalWork.{LocalState, Identity, WorkOutcome, Computed, EndsInFault}
use Rattle.sp_meaning.specs.LocalWork.{IllFormed, OutOfFuel, Work, bind, go_on, give, fail, ill_formed, read_location}
use Rattle.sp_meaning.specs.LocalWork.{write_location, fetch, assign}
use Rattle.sp_meaning.specs.LocalWork.{or_ill_formed, visible_frame, find_visible, seek, link_to, frame_link, is_block}
use Rattle.sp_meaning.specs.LocalWork.{is_index, reference_target}
use Rattle.sp_meaning.specs.Eval.{Place, AtAddress, Fixed, ArgumentValue, Calls, work_of, as_ordinal, ordinal, channel}
use Rattle.sp_meaning.specs.Eval.{channels_op}
use Rattle.sp_meaning.specs.Eval.{operate, standard_op, input_op, ordinal_read, channel_read, checked_value, element_at}
use Rattle.sp_meaning.specs.Eval.{field_kind, kind_at, element_place, field_place, read_at, address_of, index_in}
use Rattle.sp_meaning.specs.Eval.{place_by}
use Rattle.sp_meaning.specs.Eval.{place_of, input_left, value, form_value, place, component_place, actuals, address}
use Rattle.sp_meaning.specs.Eval.{ordinal_of}
use Rattle.sp_meaning.specs.Operators.{OperatorResult, Yields, OperatorFault, value_in_range, successor, predecessor}
use Rattle.sp_meaning.specs.Operators.{absolute_value, square, is_odd}
use Rattle.sp_meaning.specs.Operators.{unary_op, binary_op, least_ordinal, greatest_ordinal}

-- it ends, with t ticks or more, and with this fact
abbrev pub EndsInTicks : {A : Type 0} → ℕ → (A → LocalState → Type 0) → EffectTree Loc LocationContent (WorkOutcome A)
    → Type 0
EndsInTicks t F (Leaf (Computed a o)) = (t ≤ o.ticks) × F a o
EndsInTicks t F (Leaf (EndsInFault f)) = Unit {0}
EndsInTicks t F (Leaf IllFormed) = Unit {0}
EndsInTicks t F (Leaf OutOfFuel) = ⊥
EndsInTicks t F (ReadThen l more) = (h : LocationContent) → EndsInTicks t F (more h)
EndsInTicks t F (WriteThen l h more) = EndsInTicks t F more

pub ends_then : {A B : Type 0} (t : ℕ) (F : A → LocalState → Type 0) (G : B → LocalState → Type 0)
    (x : EffectTree Loc LocationContent (WorkOutcome A))
    (g : A → Work B) (w : Identity) → EndsInTicks t F x
    → ((a : A) (o : LocalState) → t ≤ o.ticks → F a o → EndsInTicks t G (g a w o))
    → EndsInTicks t G (and_then x (λ r. go_on g w r))
ends_then t F G (Leaf (Computed a o)) g w h k = k a o h.0 h.1
ends_then t F G (Leaf (EndsInFault f)) g w h k = tt
ends_then t F G (Leaf IllFormed) g w h k = tt
ends_then t F G (Leaf OutOfFuel) g w h k = h
ends_then t F G (ReadThen l more) g w h k = λ v. ends_then t F G (more v) g w (h v) k
ends_then t F G (WriteThen l v more) g w h k = ends_then t F G more g w h k

abbrev pub Any : {A : Type 0} → A → LocalState → Type 0
Any a o = Unit {0}

pub ends_weaker : {A : Type 0} (u t : ℕ) (x : EffectTree Loc LocationContent (WorkOutcome A)) → t ≤ u
    → EndsInTicks u Any x → EndsInTicks t Any x
ends_weaker u t (Leaf (Computed a o)) le h = (omega (arith, h.0), tt)
ends_weaker u t (Leaf (EndsInFault f)) le h = tt
ends_weaker u t (Leaf IllFormed) le h = tt
ends_weaker u t (Leaf OutOfFuel) le h = h
ends_weaker u t (ReadThen l more) le h = λ v. ends_weaker u t (more v) le (h v)
ends_weaker u t (WriteThen l v more) le h = ends_weaker u t more le h

-- begun with t ticks or more it ends so
pub record Steady {A : Type 0} (t : ℕ) (h : Work A) : Type 0 where
  pub proof : (w : Identity) (o : LocalState) → t ≤ o.ticks → EndsInTicks t Any (h w o)

pub then_steady : {A B : Type 0} (t : ℕ) (h : Work A) (g : A → Work B) → Steady t h → ((a : A) → Steady t (g a))
    → Steady t (bind h g)
then_steady t h g a b = record {
  proof = λ w o le. ends_then t Any Any (h w o) g w (a.proof w o le)
      (λ x o1 l1 u. (b x).proof w o1 l1);
}

module _ (t : ℕ) where
  pub give_steady : {A : Type 0} (a : A) → Steady t (give a)
  give_steady a = record { proof = λ w o le. (le, tt) }

  pub fail_steady : (A : Type 0) (f : Fault) → Steady {A = A} t (fail f)
  fail_steady A f = record { proof = λ w o le. tt }

  pub lost_steady : (A : Type 0) → Steady {A = A} t ill_formed
  lost_steady A = record { proof = λ w o le. tt }

  pub look_steady : (l : Loc) → Steady t (read_location l)
  look_steady l = record { proof = λ w o le h. (le, tt) }

  pub put_steady : (l : Loc) (h : LocationContent) → Steady t (write_location l h)
  put_steady l h = record { proof = λ w o le. (le, tt) }

  pub or_lost_steady : {A : Type 0} (x : Option A) → Steady t (or_ill_formed x)
  or_lost_steady {A} None = lost_steady A
  or_lost_steady (Some a) = give_steady a

  pub if_steady : {A : Type 0} (b : Bool) (h g : Work A) → Steady t h → Steady t g → Steady t (if b then h else g)
  if_steady true h g x y = x
  if_steady false h g x y = y

  pub fetch_steady : (a : Address) → Steady t (fetch a)
  fetch_steady a = then_steady t (read_location a.spot) _ (look_steady a.spot) (λ h. give_steady _)

  pub assign_steady : (a : Address) (v : Value) → Steady t (assign a v)
  assign_steady a v = then_steady t (read_location a.spot) _ (look_steady a.spot) (λ h. put_steady a.spot _)

  pub visible_steady : (fits : Home → Bool) → Steady t (visible_frame fits)
  visible_steady fits = record { proof = λ w o le. (or_lost_steady (find_visible fits o.frames)).proof w o le }

  pub reach_steady : (fits : Home → Bool) → Steady t (link_to fits)
  reach_steady fits = record { proof = λ w o le. go w o le (seek fits (length o.frames) o.frames) }
    where
      go : (w : Identity) (o : LocalState) → t ≤ o.ticks → (fs : List Frame) → EndsInTicks t Any (frame_link fs w o)
      go w o le [] = tt
      go w o le (f ∷ fs) = (le, tt)

  work_steady : (x : OperatorResult) → Steady t (work_of x)
  work_steady (Yields n) = give_steady (Ordinal n)
  work_steady (OperatorFault f) = fail_steady _ f

  pub ordinal_steady : (v : Value) → Steady t (ordinal v)
  ordinal_steady Undefined = lost_steady _
  ordinal_steady (Ordinal n) = give_steady n
  ordinal_steady (Chan c) = lost_steady _
  ordinal_steady (Parts vs) = lost_steady _

  pub channel_steady : (v : Value) → Steady t (channel v)
  channel_steady Undefined = lost_steady _
  channel_steady (Ordinal n) = lost_steady _
  channel_steady (Chan c) = give_steady c
  channel_steady (Parts vs) = lost_steady _

  channels_steady : (op : BinaryOp) (c d : Channel) → Steady t (channels_op op c d)
  channels_steady binary.Eq c d = give_steady _
  channels_steady binary.Ne c d = give_steady _
  channels_steady _ _ _ = lost_steady _

  binary_steady : (op : BinaryOp) (v w : Value) → Steady t (operate op v w)
  binary_steady op Undefined w = lost_steady _
  binary_steady op (Ordinal m) w = then_steady t (ordinal w) _ (ordinal_steady w) (λ n. work_steady (binary_op op m n))
  binary_steady op (Chan c) w = then_steady t (channel w) _ (channel_steady w) (λ d. channels_steady op c d)
  binary_steady op (Parts vs) w = lost_steady _

  standard_steady : (f : StandardFn) (k : KindOf) (n : ℤ) → Steady t (standard_op f k n)
  standard_steady standard.Abs k n = work_steady (absolute_value n)
  standard_steady standard.Sqr k n = work_steady (square n)
  standard_steady standard.Odd k n = work_steady (is_odd n)
  standard_steady standard.Ord k n = give_steady _
  standard_steady standard.Chr k n = work_steady (value_in_range (pos 0) (pos 255) n)
  standard_steady standard.Succ k n = work_steady (successor (greatest_ordinal k) n)
  standard_steady standard.Pred k n = work_steady (predecessor (least_ordinal k) n)
  standard_steady standard.Eof k n = lost_steady _
  standard_steady standard.Eoln k n = lost_steady _

  input_steady : (f : StandardFn) (bs : List ℕ) → Steady t (input_op f bs)
  input_steady standard.Eof bs = give_steady _
  input_steady standard.Eoln bs = give_steady _
  input_steady _ _ = lost_steady _

  ordinal_read_steady : (v : Value) → Steady t (ordinal_read v)
  ordinal_read_steady Undefined = fail_steady _ fault.F4
  ordinal_read_steady (Ordinal n) = give_steady _
  ordinal_read_steady (Chan c) = fail_steady _ fault.F4
  ordinal_read_steady (Parts vs) = fail_steady _ fault.F4

  channel_read_steady : (v : Value) → Steady t (channel_read v)
  channel_read_steady Undefined = fail_steady _ fault.F5
  channel_read_steady (Ordinal n) = fail_steady _ fault.F5
  channel_read_steady (Chan c) = give_steady _
  channel_read_steady (Parts vs) = fail_steady _ fault.F5

  checked_steady : (k : KindOf) (v : Value) → Steady t (checked_value k v)
  checked_steady (kind.Array low high index element) v = give_steady v
  checked_steady (kind.Fields fs) v = give_steady v
  checked_steady (kind.Channel ks) v = channel_read_steady v
  checked_steady _ v = ordinal_read_steady v

  element_steady : (a : Address) (n : ℤ) (k : KindOf) → Steady t (element_at a n k)
  element_steady a n (kind.Array low high index element) =
      if_steady (int_le low n && int_le n high)
      (give (AtAddress (record { spot = a.spot; path = a.path ++ nat_abs (n -ℤ low) ∷ []; kind = element })))
      (fail fault.F1)
      (give_steady _) (fail_steady _ fault.F1)
  element_steady _ _ _ = lost_steady _

  module _ (g : RunInput) where
    pub kind_steady : (k : ℕ) → Steady t (kind_at g k)
    kind_steady k = or_lost_steady _

    indexed_steady : (q : Place) (n : ℤ) → Steady t (element_place g q n)
    indexed_steady (AtAddress a) n = then_steady t (kind_at g a.kind) _ (kind_steady a.kind) (λ k. element_steady a n k)
    indexed_steady (Fixed m) n = lost_steady _

    fielded_steady : (f : ℕ) (q : Place) → Steady t (field_place g f q)
    fielded_steady f (AtAddress a) = then_steady t (kind_at g a.kind) _ (kind_steady a.kind)
        (λ k. then_steady t (or_ill_formed (field_kind f k)) _ (or_lost_steady _) (λ u. give_steady _))
    fielded_steady f (Fixed m) = lost_steady _

    pub read_steady : (q : Place) → Steady t (read_at g q)
    read_steady (AtAddress a) = then_steady t (kind_at g a.kind) _ (kind_steady a.kind)
        (λ k. then_steady t (fetch a) _ (fetch_steady a) (λ v. checked_steady k v))
    read_steady (Fixed n) = give_steady _

    pub address_of_steady : (q : Place) → Steady t (address_of g q)
    address_of_steady (AtAddress a) = give_steady a
    address_of_steady (Fixed n) = lost_steady _

    index_in_steady : (h : Home) → Steady t (index_in g h)
    index_in_steady (OfBlock b) = lost_steady _
    index_in_steady (OfIndex x n) = give_steady _

    place_by_steady : (x : ℕ) (i : Variable) (r : Role) → Steady t (place_by g x i r)
    place_by_steady x i role.Console = lost_steady _
    place_by_steady x i role.Local = then_steady t (visible_frame (is_block i.block)) _ (visible_steady _)
        (λ f. give_steady _)
    place_by_steady x i role.Value = then_steady t (visible_frame (is_block i.block)) _ (visible_steady _)
        (λ f. give_steady _)
    place_by_steady x i role.Reference = then_steady t (visible_frame (is_block i.block)) _ (visible_steady _)
        (λ f. then_steady t (or_ill_formed (reference_target x f.references)) _ (or_lost_steady _) (λ a. give_steady _))
    place_by_steady x i role.Index = then_steady t (visible_frame (is_index x)) _ (visible_steady _)
        (λ f. index_in_steady f.home)
    place_by_steady x i role.Answer = then_steady t (visible_frame (is_block i.block)) _ (visible_steady _)
        (λ f. give_steady _)

    pub place_of_steady : (x : ℕ) → Steady t (place_of g x)
    place_of_steady x = then_steady t (or_ill_formed (slice_get g.program.variables x)) _ (or_lost_steady _)
        (λ i. place_by_steady x i i.role)

    pub left_steady : Steady t (input_left g)
    left_steady = then_steady t (read_location _) _ (look_steady _) (λ h. give_steady _)

    as_ordinal_steady : (h : Work Value) → Steady t h → Steady t (as_ordinal h)
    as_ordinal_steady h st = then_steady t h _ st (λ v. ordinal_steady v)

    pub record CallsEnd (call : Calls) : Type 0 where
      pub proof : (f : ℕ) (gs : List ArgumentValue) → Steady t (call f gs)

    mutual
      pub value_steady : (call : Calls) → CallsEnd call → (e : Expr) → Steady t (value g call e)
      value_steady call ok (Typed k form) = form_steady call ok k form

      form_steady : (call : Calls) → CallsEnd call → (k : ℕ) (e : ExprForm) → Steady t (form_value g call k e)
      form_steady call ok k (Number n) = give_steady _
      form_steady call ok k (Read v) = then_steady t (place g call v) _ (place_steady call ok v) (λ q. read_steady q)
      form_steady call ok k (Unary op a) = then_steady t (as_ordinal (value g call a)) _
          (as_ordinal_steady _ (value_steady call ok a)) (λ n. work_steady (unary_op op n))
      form_steady call ok k (Binary op a b) =
          then_steady t (value g call a) _ (value_steady call ok a)
          (λ v. then_steady t (value g call b) _ (value_steady call ok b) (λ w. binary_steady op v w))
      form_steady call ok k (Apply f args) =
          then_steady t (actuals g call args) _ (actuals_steady call ok args) (λ gs. ok.proof f gs)
      form_steady call ok k (Standard f a) =
          then_steady t (as_ordinal (value g call a)) _ (as_ordinal_steady _ (value_steady call ok a))
          (λ n. then_steady t (kind_at g k) _ (kind_steady k) (λ u. standard_steady f u n))
      form_steady call ok k (AtInput f) = then_steady t (input_left g) _ left_steady (λ bs. input_steady f bs)

      pub place_steady : (call : Calls) → CallsEnd call → (v : Var) → Steady t (place g call v)
      place_steady call ok (Entire x ss) = then_steady t (place_of g x) _ (place_of_steady x)
          (λ q. selected_steady call ok ss q)

      selected_steady : (call : Calls) → CallsEnd call → (ss : Selectors) (q : Place)
          → Steady t (component_place g call ss q)
      selected_steady call ok Whole q = give_steady q
      selected_steady call ok (Select (Index e) rest) q =
          then_steady t (as_ordinal (value g call e)) _ (as_ordinal_steady _ (value_steady call ok e))
          (λ n. then_steady t (element_place g q n) _ (indexed_steady q n) (λ r. selected_steady call ok rest r))
      selected_steady call ok (Select (Field f) rest) q =
          then_steady t (field_place g f q) _ (fielded_steady f q) (λ r. selected_steady call ok rest r)

      pub actuals_steady : (call : Calls) → CallsEnd call → (args : Actuals) → Steady t (actuals g call args)
      actuals_steady call ok Nothing = give_steady _
      actuals_steady call ok (Pass (ByValue e) rest) =
          then_steady t (value g call e) _ (value_steady call ok e)
          (λ v. then_steady t (actuals g call rest) _ (actuals_steady call ok rest) (λ gs. give_steady _))
      actuals_steady call ok (Pass (ByReference x) rest) =
          then_steady t (place g call x) _ (place_steady call ok x)
          (λ q. then_steady t (address_of g q) _ (address_of_steady q)
          (λ a. then_steady t (actuals g call rest) _ (actuals_steady call ok rest) (λ gs. give_steady _)))

    pub address_steady : (call : Calls) → CallsEnd call → (v : Var) → Steady t (address g call v)
    address_steady call ok v = then_steady t (place g call v) _ (place_steady call ok v) (λ q. address_of_steady q)

    pub ordinal_of_steady : (call : Calls) → CallsEnd call → (e : Expr) → Steady t (ordinal_of g call e)
    ordinal_of_steady call ok e = as_ordinal_steady _ (value_steady call ok e)
