-- What the evaluation of an expression reads and writes is the process's to read and write.
use Rattle.std.proofs.Common.{◌≡◌, inl, inr, sym, ap, ◌∙◌, subst, ℕ, Bool, true, false, List, [], ◌∷◌, Option, Some}
use Rattle.std.proofs.Common.{None, refl, length, if◌then◌else◌}
use Rattle.std.specs.Prelude.{ℤ, ◌-ℤ◌, nat_abs, slice_get, int_le, ◌&&◌, ◌++◌}
use Rattle.sp_base.specs.declared.fault.Fault.{Fault}
use Rattle.sp_base.specs.declared.fault.Fault.TheVariants as fault
use Rattle.sp_tree.specs.declared.checked.KindOf.{KindOf}
use Rattle.sp_tree.specs.declared.checked.KindOf.TheVariants as kind
use Rattle.sp_tree.specs.declared.checked.Role.{Role}
use Rattle.sp_tree.specs.declared.checked.Role.TheVariants as role
use Rattle.sp_tree.specs.declared.operators.BinaryOp.{BinaryOp}
use Rattle.sp_tree.specs.declared.operators.BinaryOp.TheVariants as binary
use Rattle.sp_tree.specs.declared.operators.StandardFn.{StandardFn}
use Rattle.sp_tree.specs.declared.operators.StandardFn.TheVariants as standard
use Rattle.sp_tree.specs.Plain.{Expr, Typed, ExprForm, Number, Read, Unary, Binary, Apply, Standard, AtInput, Var}
use Rattle.sp_tree.specs.Plain.{Entire, Index, Field, Selectors, Whole, Select, ByValue, ByReference, Actuals, Nothing}
use Rattle.sp_tree.specs.Plain.{Pass, Program, Variable}
use Rattle.sp_meaning.specs.Model.{Channel, Name}
use Rattle.sp_meaning.specs.EffectTree.{EffectTree, Leaf, ReadThen, WriteThen, and_then}
use Rattle.sp_meaning.specs.Values.{Value, Undefined, Ordinal, Chan, Parts}
use Rattle.sp_meaning.specs.LocalWork.{RunInput, Loc, Input, Output, LocationContent, Address, Home, OfBlock, OfIndex}
use Rattle.sp_meaning.specs.LocalWork.{Frame, LocalState, Identity}
use Rattle.sp_meaning.specs.LocalWork.{WorkOutcome, Computed, EndsInFault, IllFormed, OutOfFuel, Work, bind, go_on}
use Rattle.sp_meaning.specs.LocalWork.{give, fail, ill_formed, read_location, write_location, fetch}
use Rattle.sp_meaning.specs.LocalWork.{assign, or_ill_formed, visible_frame, find_visible, is_block, is_index}
use Rattle.sp_meaning.specs.LocalWork.{reference_target}
use Rattle.sp_meaning.specs.Operators.{OperatorResult, Yields, OperatorFault}
use Rattle.sp_meaning.specs.Eval.{Place, AtAddress, Fixed, ArgumentValue, Calls, work_of, as_ordinal, ordinal, channel}
use Rattle.sp_meaning.specs.Eval.{channels_op}
use Rattle.sp_meaning.specs.Eval.{operate, standard_op, input_op, ordinal_read, channel_read, checked_value, element_at}
use Rattle.sp_meaning.specs.Eval.{field_kind, kind_at, element_place, field_place, read_at, address_of, index_in}
use Rattle.sp_meaning.specs.Eval.{place_by}
use Rattle.sp_meaning.specs.Eval.{place_of, input_left, value, form_value, place, component_place, actuals, address}
use Rattle.sp_meaning.specs.Eval.{ordinal_of}
use Rattle.sp_tree.specs.Uses.{Use, Target, Seen, In_expr, In_form, In_target, In_selectors, In_actuals, In_call}
use Rattle.sp_tree.proofs.Closure.{reach_part}
use Rattle.sp_tree.specs.Interference.{IsFreeOfInterference}
use Rattle.sp_meaning.specs.Rights.{frame_found, cell_of, spot_of, reference_of, console, location_by, location_at}
use Rattle.sp_meaning.specs.Rights.{location_of, Sound}
use Rattle.sp_meaning.specs.Rights.{AreArgumentsOf}
use Rattle.sp_meaning.proofs.Static.{find_is}

-- what a computation reads and writes is R's and W's, and what it comes to has this fact
abbrev pub StaysWithin : {A : Type 0} → (W R : Loc → Type 0) → (A → LocalState → Type 0)
    → EffectTree Loc LocationContent (WorkOutcome A) → Type 0
StaysWithin W R F (Leaf (Computed a o)) = F a o
StaysWithin W R F (Leaf (EndsInFault f)) = Unit {0}
StaysWithin W R F (Leaf IllFormed) = Unit {0}
StaysWithin W R F (Leaf OutOfFuel) = Unit {0}
StaysWithin W R F (ReadThen l more) = R l × ((h : LocationContent) → StaysWithin W R F (more h))
StaysWithin W R F (WriteThen l h more) = W l × StaysWithin W R F more

pub within_then : {A B : Type 0} (W R : Loc → Type 0) (F : A → LocalState → Type 0) (G : B → LocalState → Type 0)
    (x : EffectTree Loc LocationContent (WorkOutcome A)) (g : A → Work B) (w : Identity) → StaysWithin W R F x
    → ((a : A) (o : LocalState) → F a o → StaysWithin W R G (g a w o))
    → StaysWithin W R G (and_then x (λ r. go_on g w r))
within_then W R F G (Leaf (Computed a o)) g w h k = k a o h
within_then W R F G (Leaf (EndsInFault f)) g w h k = tt
within_then W R F G (Leaf IllFormed) g w h k = tt
within_then W R F G (Leaf OutOfFuel) g w h k = tt
within_then W R F G (ReadThen l more) g w h k = (h.0, λ v. within_then W R F G (more v) g w (h.1 v) k)
within_then W R F G (WriteThen l v more) g w h k = (h.0, within_then W R F G more g w h.1 k)

-- what stands in a part is sound where the whole is
pub part : {p : Program} {W R : Loc → Type 0} {fs : List Frame} {Here Above : Use → Type 0}
    → ((u : Use) → Here u → Above u) → Sound p W R fs Above → Sound p W R fs Here
part {p} i s = record {
  allowed = λ bs u r. s.allowed bs u (reach_part p i bs u r);
  apart = λ bs cs u v r t. s.apart bs cs u v (reach_part p i bs u r) (reach_part p i cs v t);
  kept = λ u a. s.kept u (i u a);
}

-- begun by q with these frames it keeps within W and R, and then these frames stand again, and its value has this fact
pub record KeepsRights {A : Type 0} (q : Name) (W R : Loc → Type 0) (fs : List Frame) (F : A → Type 0)
    (h : Work A) : Type
    0 where
  pub proof : (w : Identity) (o : LocalState) → w.name ≡ q → o.frames ≡ fs
      → StaysWithin W R (λ a o1. (o1.frames ≡ fs) × F a) (h w o)

abbrev pub variable_of : Var → ℕ
variable_of (Entire x ss) = x

abbrev pub selectors_of : Var → Selectors
selectors_of (Entire x ss) = ss

abbrev pub Any : {A : Type 0} → A → Type 0
Any a = Unit {0}

module _ (q : Name) (W R : Loc → Type 0) (fs : List Frame) where
  abbrev pub KeepsRightsOnly : {A : Type 0} → Work A → Type 0
  KeepsRightsOnly h = KeepsRights q W R fs Any h

  pub then_keeps : {A B : Type 0} {F : A → Type 0} {G : B → Type 0} (h : Work A) (g : A → Work B)
      → KeepsRights q W R fs F h
      → ((a : A) → F a → KeepsRights q W R fs G (g a)) → KeepsRights q W R fs G (bind h g)
  then_keeps {F = F} {G = G} h g a b = record {
    proof =
        λ w o n e. within_then W R (λ x o1. (o1.frames ≡ fs) × F x) (λ x o1. (o1.frames ≡ fs) × G x) (h w o) g w
        (a.proof w o n e) (λ x o1 f. (b x f.1).proof w o1 n f.0);
  }

  pub then_stays : {A B : Type 0} {G : B → Type 0} (h : Work A) (g : A → Work B) → KeepsRightsOnly h
      → ((a : A) → KeepsRights q W R fs G (g a)) → KeepsRights q W R fs G (bind h g)
  then_stays h g a b = then_keeps h g a (λ x u. b x)

  pub give_keeps : {A : Type 0} {F : A → Type 0} (a : A) → F a → KeepsRights q W R fs F (give a)
  give_keeps a f = record { proof = λ w o n e. (e, f) }

  pub give_stays : {A : Type 0} (a : A) → KeepsRightsOnly (give a)
  give_stays a = record { proof = λ w o n e. (e, tt) }

  pub fail_stays : (A : Type 0) (f : Fault) → KeepsRightsOnly {A = A} (fail f)
  fail_stays A f = record { proof = λ w o n e. tt }

  pub fail_keeps : {A : Type 0} {F : A → Type 0} (f : Fault) → KeepsRights q W R fs F (fail f)
  fail_keeps f = record { proof = λ w o n e. tt }

  pub lost_stays : (A : Type 0) → KeepsRightsOnly {A = A} ill_formed
  lost_stays A = record { proof = λ w o n e. tt }

  pub lost_keeps : {A : Type 0} {F : A → Type 0} → KeepsRights q W R fs F ill_formed
  lost_keeps = record { proof = λ w o n e. tt }

  pub look_stays : (l : Loc) → R l → KeepsRightsOnly (read_location l)
  look_stays l r = record { proof = λ w o n e. (r, λ h. (e, tt)) }

  pub put_stays : (l : Loc) (h : LocationContent) → W l → KeepsRightsOnly (write_location l h)
  put_stays l h r = record { proof = λ w o n e. (r, (e, tt)) }

  abbrev pub Is : {A : Type 0} → Option A → A → Type 0
  Is x a = x ≡ Some a

  pub or_lost_keeps : {A : Type 0} (x : Option A) → KeepsRights q W R fs (Is x) (or_ill_formed x)
  or_lost_keeps None = lost_keeps
  or_lost_keeps (Some a) = give_keeps a refl

  pub or_lost_stays : {A : Type 0} (x : Option A) → KeepsRightsOnly (or_ill_formed x)
  or_lost_stays {A} None = lost_stays A
  or_lost_stays (Some a) = give_stays a

  pub fetch_stays : (a : Address) → R a.spot → KeepsRightsOnly (fetch a)
  fetch_stays a r = then_stays (read_location a.spot) _ (look_stays a.spot r) (λ h. give_stays _)

  pub assign_stays : (a : Address) (v : Value) → R a.spot → W a.spot → KeepsRightsOnly (assign a v)
  assign_stays a v r u = then_stays (read_location a.spot) _ (look_stays a.spot r) (λ h. put_stays a.spot _ u)

  pub visible_keeps : (fits : Home → Bool) → KeepsRights q W R fs (Is (frame_found fits (length fs) fs))
      (visible_frame fits)
  visible_keeps fits = record {
    proof = λ w o n e. subst (λ z. StaysWithin W R (λ a o1. (o1.frames ≡ fs) × Is (frame_found fits (length fs) fs) a)
        (or_ill_formed (find_visible fits z) w o)) (sym e)
        (subst (λ x. StaysWithin W R (λ a o1. (o1.frames ≡ fs) × Is (frame_found fits (length fs) fs) a)
        (or_ill_formed x w o))
        (sym (find_is fits (length fs) fs)) ((or_lost_keeps (frame_found fits (length fs) fs)).proof w o n e));
  }

  work_stays : (x : OperatorResult) → KeepsRightsOnly (work_of x)
  work_stays (Yields n) = give_stays _
  work_stays (OperatorFault f) = fail_stays _ f

  pub ordinal_stays : (v : Value) → KeepsRightsOnly (ordinal v)
  ordinal_stays Undefined = lost_stays _
  ordinal_stays (Ordinal n) = give_stays n
  ordinal_stays (Chan c) = lost_stays _
  ordinal_stays (Parts vs) = lost_stays _

  pub channel_stays : (v : Value) → KeepsRightsOnly (channel v)
  channel_stays Undefined = lost_stays _
  channel_stays (Ordinal n) = lost_stays _
  channel_stays (Chan c) = give_stays c
  channel_stays (Parts vs) = lost_stays _

  -- an ordinal value as a number
  pub as_ordinal_stays : (h : Work Value) → KeepsRightsOnly h → KeepsRightsOnly (as_ordinal h)
  as_ordinal_stays h k = then_stays h _ k (λ v. ordinal_stays v)

  channels_stays : (op : BinaryOp) (c d : Channel) → KeepsRightsOnly (channels_op op c d)
  channels_stays binary.Eq c d = give_stays _
  channels_stays binary.Ne c d = give_stays _
  channels_stays _ _ _ = lost_stays _

  operate_stays : (op : BinaryOp) (v w : Value) → KeepsRightsOnly (operate op v w)
  operate_stays op Undefined w = lost_stays _
  operate_stays op (Ordinal m) w = then_stays (ordinal w) _ (ordinal_stays w) (λ n. work_stays _)
  operate_stays op (Chan c) w = then_stays (channel w) _ (channel_stays w) (λ d. channels_stays op c d)
  operate_stays op (Parts vs) w = lost_stays _

  standard_stays : (f : StandardFn) (k : KindOf) (n : ℤ) → KeepsRightsOnly (standard_op f k n)
  standard_stays standard.Odd k n = give_stays _
  standard_stays standard.Ord k n = give_stays _
  standard_stays standard.Eof k n = lost_stays _
  standard_stays standard.Eoln k n = lost_stays _
  standard_stays _ _ _ = work_stays _

  input_stays : (f : StandardFn) (bs : List ℕ) → KeepsRightsOnly (input_op f bs)
  input_stays standard.Eof bs = give_stays _
  input_stays standard.Eoln bs = give_stays _
  input_stays _ _ = lost_stays _

  ordinal_read_stays : (v : Value) → KeepsRightsOnly (ordinal_read v)
  ordinal_read_stays Undefined = fail_stays _ fault.F4
  ordinal_read_stays (Ordinal n) = give_stays _
  ordinal_read_stays (Chan c) = fail_stays _ fault.F4
  ordinal_read_stays (Parts vs) = fail_stays _ fault.F4

  channel_read_stays : (v : Value) → KeepsRightsOnly (channel_read v)
  channel_read_stays Undefined = fail_stays _ fault.F5
  channel_read_stays (Ordinal n) = fail_stays _ fault.F5
  channel_read_stays (Chan c) = give_stays _
  channel_read_stays (Parts vs) = fail_stays _ fault.F5

  checked_stays : (k : KindOf) (v : Value) → KeepsRightsOnly (checked_value k v)
  checked_stays (kind.Array low high index element) v = give_stays v
  checked_stays (kind.Fields fs) v = give_stays v
  checked_stays (kind.Channel ks) v = channel_read_stays v
  checked_stays _ v = ordinal_read_stays v

  -- where variable x stands in these frames, its component stands too
  abbrev pub IsComponentOf : Option Loc → Place → Type 0
  IsComponentOf x (AtAddress a) = x ≡ Some a.spot
  IsComponentOf x (Fixed n) = Unit {0}

  element_keeps : (x : Option Loc) (a : Address) (n : ℤ) (k : KindOf) → x ≡ Some a.spot
      → KeepsRights q W R fs (IsComponentOf x) (element_at a n k)
  element_keeps x a n (kind.Array low high index element) e = go (int_le low n && int_le n high)
    where
      go : (b : Bool) → KeepsRights q W R fs (IsComponentOf x)
          (if b then give (AtAddress (record {
            spot = a.spot;
            path = a.path ++ nat_abs (n -ℤ low) ∷ [];
            kind =
                element;
          })) else
          fail fault.F1)
      go true = give_keeps _ e
      go false = fail_keeps fault.F1
  element_keeps _ _ _ _ _ = lost_keeps

  module _ (set : RunInput) where
    pub kind_stays : (k : ℕ) → KeepsRightsOnly (kind_at set k)
    kind_stays k = or_lost_stays _

    indexed_keeps : (x : Option Loc) (z : Place) (n : ℤ) → IsComponentOf x z
        → KeepsRights q W R fs (IsComponentOf x) (element_place set z n)
    indexed_keeps x (AtAddress a) n e = then_stays (kind_at set a.kind) _ (kind_stays a.kind)
        (λ k. element_keeps x a n k e)
    indexed_keeps x (Fixed m) n e = lost_keeps

    fielded_keeps : (x : Option Loc) (f : ℕ) (z : Place) → IsComponentOf x z
        → KeepsRights q W R fs (IsComponentOf x) (field_place set f z)
    fielded_keeps x f (AtAddress a) e = then_stays (kind_at set a.kind) _ (kind_stays a.kind)
        (λ k. then_stays (or_ill_formed (field_kind f k)) _ (or_lost_stays _) (λ u. give_keeps _ e))
    fielded_keeps x f (Fixed m) e = lost_keeps

    -- a place whose entire variable may be read, or may be written
    abbrev pub MayRead : Place → Type 0
    MayRead (AtAddress a) = R a.spot
    MayRead (Fixed n) = Unit {0}

    pub read_stays : (z : Place) → MayRead z → KeepsRightsOnly (read_at set z)
    read_stays (AtAddress a) r = then_stays (kind_at set a.kind) _ (kind_stays a.kind)
        (λ k. then_stays (fetch a) _ (fetch_stays a r) (λ v. checked_stays k v))
    read_stays (Fixed n) r = give_stays _

    abbrev pub Entirely : Option Loc → Address → Type 0
    Entirely x a = x ≡ Some a.spot

    pub address_of_keeps : (x : Option Loc) (z : Place) → IsComponentOf x z
        → KeepsRights q W R fs (Entirely x) (address_of set z)
    address_of_keeps x (AtAddress a) e = give_keeps a e
    address_of_keeps x (Fixed n) e = lost_keeps

    index_in_keeps : (x : Option Loc) (h : Home) → KeepsRights q W R fs (IsComponentOf x) (index_in set h)
    index_in_keeps x (OfBlock b) = lost_keeps
    index_in_keeps x (OfIndex y n) = give_keeps _ tt

    place_by_keeps : (x : ℕ) (i : Variable) (r : Role) → KeepsRights q W R fs (IsComponentOf (location_by fs x i r))
        (place_by set x i r)
    place_by_keeps x i role.Console = lost_keeps
    place_by_keeps x i role.Local = then_keeps (visible_frame (is_block i.block)) _ (visible_keeps _)
        (λ f e. give_keeps _ (ap (cell_of x) e))
    place_by_keeps x i role.Value = then_keeps (visible_frame (is_block i.block)) _ (visible_keeps _)
        (λ f e. give_keeps _ (ap (cell_of x) e))
    place_by_keeps x i role.Reference = then_keeps (visible_frame (is_block i.block)) _ (visible_keeps _)
        (λ f e. then_keeps (or_ill_formed (reference_target x f.references)) _ (or_lost_keeps _)
        (λ a d. give_keeps _ (ap (reference_of x) e ∙ ap spot_of d)))
    place_by_keeps x i role.Index = then_keeps (visible_frame (is_index x)) _ (visible_keeps _)
        (λ f e. index_in_keeps None f.home)
    place_by_keeps x i role.Answer = then_keeps (visible_frame (is_block i.block)) _ (visible_keeps _)
        (λ f e. give_keeps _ (ap (cell_of x) e))

    pub place_of_keeps : (x : ℕ) → KeepsRights q W R fs (IsComponentOf (location_of set.program fs x)) (place_of set x)
    place_of_keeps x = go (slice_get set.program.variables x)
      where
        go : (v : Option Variable) → KeepsRights q W R fs (IsComponentOf (location_at fs x v))
            (bind (or_ill_formed v) (λ i. place_by set x i i.role))
        go None = record { proof = λ w o n e. tt }
        go (Some i) = record { proof = λ w o n e. (place_by_keeps x i i.role).proof w o n e }

    module _ (free : IsFreeOfInterference set.program) (writes_read : (l : Loc) → W l → R l) where
      abbrev IsSound : (Use → Type 0) → Type 0
      IsSound Here = Sound set.program W R fs Here

      -- calls keep within what their call may do
      pub record CallsKeep (call : Calls) : Type 0 where
        pub proof : (f : ℕ) (args : Actuals) (gs : List ArgumentValue) → IsSound (In_call f args)
            → AreArgumentsOf set.program fs args gs
            → KeepsRightsOnly (call f gs)

      at_console : (x : ℕ) → (i : Variable) × (slice_get set.program.variables x ≡ Some i) × (i.role ≡ role.Console)
          → location_of set.program fs x ≡ Some (console x)
      at_console x c = ap (location_at fs x) c.1 ∙ ap (location_by fs x c.0) c.2

      pub input_read : {Here : Use → Type 0} → IsSound Here → Here (Seen 0) → R Input
      input_read s a = s.allowed [] (Seen 0) a 0 Input (refl, at_console 0 free.input)

      pub input_written : {Here : Use → Type 0} → IsSound Here → Here (Target 0) → W Input
      input_written s a = s.allowed [] (Target 0) a 0 Input (refl, at_console 0 free.input)

      pub output_written : {Here : Use → Type 0} → IsSound Here → Here (Target 1) → W Output
      output_written s a = s.allowed [] (Target 1) a 1 Output (refl, at_console 1 free.output)

      pub left_stays : R Input → KeepsRightsOnly (input_left set)
      left_stays r = then_stays (read_location Input) _ (look_stays Input r) (λ h. give_stays _)

      may_read : {Here : Use → Type 0} → IsSound Here → (x : ℕ) → Here (Seen x) → (z : Place)
          → IsComponentOf (location_of set.program fs x) z → MayRead z
      may_read s x a (AtAddress z) e = s.allowed [] (Seen x) a x z.spot (refl, e)
      may_read s x a (Fixed n) e = tt

      mutual
        pub value_stays : (call : Calls) → CallsKeep call → (e : Expr) → IsSound (In_expr e)
            → KeepsRightsOnly (value set call e)
        value_stays call ok (Typed k form) s = form_stays call ok k form s

        form_stays : (call : Calls) → CallsKeep call → (k : ℕ) (e : ExprForm) → IsSound (In_form e)
            → KeepsRightsOnly (form_value set call k e)
        form_stays call ok k (Number n) s = give_stays _
        form_stays call ok k (Read (Entire x ss)) s =
            then_keeps (place set call (Entire x ss)) _ (place_keeps call ok (Entire x ss) (part (λ u. inr) s))
            (λ z e. read_stays z (may_read s x (inl refl) z e))
        form_stays call ok k (Unary op a) s =
            then_stays (as_ordinal (value set call a)) _ (as_ordinal_stays _ (value_stays call ok a s))
            (λ n. work_stays _)
        form_stays call ok k (Binary op a b) s =
            then_stays (value set call a) _ (value_stays call ok a (part (λ u. inl) s))
            (λ v. then_stays (value set call b) _ (value_stays call ok b (part (λ u. inr) s))
            (λ w. operate_stays op v w))
        form_stays call ok k (Apply f args) s =
            then_keeps (actuals set call args) _ (actuals_keeps call ok args (part (λ u. inr) s))
            (λ gs g. ok.proof f args gs s g)
        form_stays call ok k (Standard f a) s =
            then_stays (as_ordinal (value set call a)) _ (as_ordinal_stays _ (value_stays call ok a s))
            (λ n. then_stays (kind_at set k) _ (kind_stays k) (λ u. standard_stays f u n))
        form_stays call ok k (AtInput f) s =
            then_stays (input_left set) _ (left_stays (input_read s refl)) (λ bs. input_stays f bs)

        pub place_keeps : (call : Calls) → CallsKeep call → (v : Var) → IsSound (In_selectors (selectors_of v))
            → KeepsRights q W R fs (IsComponentOf (location_of set.program fs (variable_of v))) (place set call v)
        place_keeps call ok (Entire x ss) s =
            then_keeps (place_of set x) _ (place_of_keeps x)
            (λ z e. selected_keeps call ok (location_of set.program fs x) ss z e s)

        selected_keeps : (call : Calls) → CallsKeep call → (x : Option Loc) (ss : Selectors) (z : Place)
            → IsComponentOf x z
            → IsSound (In_selectors ss) → KeepsRights q W R fs (IsComponentOf x) (component_place set call ss z)
        selected_keeps call ok x Whole z e s = give_keeps z e
        selected_keeps call ok x (Select (Index i) rest) z e s =
            then_stays (as_ordinal (value set call i)) _
            (as_ordinal_stays _ (value_stays call ok i (part (λ u. inl) s)))
            (λ n. then_keeps (element_place set z n) _ (indexed_keeps x z n e)
            (λ r d. selected_keeps call ok x rest r d (part (λ u. inr) s)))
        selected_keeps call ok x (Select (Field f) rest) z e s =
            then_keeps (field_place set f z) _ (fielded_keeps x f z e) (λ r d. selected_keeps call ok x rest r d s)

        pub actuals_keeps : (call : Calls) → CallsKeep call → (args : Actuals) → IsSound (In_actuals args)
            → KeepsRights q W R fs (AreArgumentsOf set.program fs args) (actuals set call args)
        actuals_keeps call ok Nothing s = give_keeps _ tt
        actuals_keeps call ok (Pass (ByValue e) rest) s =
            then_stays (value set call e) _ (value_stays call ok e (part (λ u. inl) s))
            (λ v. then_keeps (actuals set call rest) _ (actuals_keeps call ok rest (part (λ u. inr) s))
            (λ gs g. give_keeps _ g))
        actuals_keeps call ok (Pass (ByReference (Entire x ss)) rest) s =
            then_keeps (place set call (Entire x ss)) _
            (place_keeps call ok (Entire x ss) (part (λ u h. inl (inr h)) s))
            (λ z e. then_keeps (address_of set z) _ (address_of_keeps (location_of set.program fs x) z e)
            (λ a d. then_keeps (actuals set call rest) _ (actuals_keeps call ok rest (part (λ u. inr) s))
            (λ gs g. give_keeps _ (d, g))))

      -- a target's address: its entire variable may be written
      abbrev pub Writable : Address → Type 0
      Writable a = W a.spot

      pub address_keeps : (call : Calls) → CallsKeep call → (v : Var) → IsSound (In_target v)
          → KeepsRights q W R fs Writable (address set call v)
      address_keeps call ok (Entire x ss) s =
          then_keeps (place set call (Entire x ss)) _ (place_keeps call ok (Entire x ss) (part (λ u. inr) s)) go
        where
          go : (z : Place) → IsComponentOf (location_of set.program fs x) z
              → KeepsRights q W R fs Writable (address_of set z)
          go (AtAddress a) e = give_keeps a (s.allowed [] (Target x) (inl refl) x a.spot (refl, e))
          go (Fixed n) e = lost_keeps

      pub ordinal_of_stays : (call : Calls) → CallsKeep call → (e : Expr) → IsSound (In_expr e)
          → KeepsRightsOnly (ordinal_of set call e)
      ordinal_of_stays call ok e s = as_ordinal_stays _ (value_stays call ok e s)
