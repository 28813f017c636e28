-- The rules of subtyping taken apart by either head.
use Rattle.std.proofs.Common.{◌≡◌, inl, inr, ℕ, Bool, true, false, true≢false, refl, sym, ap, subst, nat_eq}
use Rattle.std.specs.Cmp.{unsigned_Decides}
use Rattle.mo_types.specs.declared.node.Node.{Node}
use Rattle.mo_types.specs.declared.node.Node.TheVariants as node
use Rattle.mo_types.specs.Heads.{is_any}
use Rattle.mo_types.specs.Sub.{IsSubtype, Unless, NodeBelow, HeadBelow}
use Rattle.subtype_laws.specs.Inversion.{OtherAbove, IsAbove, OtherBelow, IsBelow}
use Rattle.subtype_laws.proofs.Monotone.{unless}
use Rattle.subtype_laws.proofs.Greatest.{taken, given}

pub any_is : {A : Type 0} (y : Node A) → is_any y ≡ true → y ≡ node.Any
any_is node.Any e = refl
any_is y e = absurd (true≢false (sym e))

module _ {A : Type 0} (R : A → A → Type 0) (u : A) where
  same_number : (v w : ℕ) (b c : A) (e : Bool) → nat_eq v w ≡ e → Unless e (R b u) → OtherAbove R u (node.Variable v b) (node.Variable w c)
  same_number v w b c true e h = inl (c, ap (λ k. node.Variable k c) (sym ((unsigned_Decides v w).0 e)))
  same_number v w b c false e h = inr h

  above_to : (x y : Node A) → HeadBelow R u x y → OtherAbove R u x y
  above_to (node.Number k) (node.Number j) h = (j, refl, h)
  above_to (node.Number k) y h = absurd h
  above_to node.Bool node.Bool h = refl
  above_to node.Bool y h = absurd (true≢false (sym h))
  above_to node.Char node.Char h = refl
  above_to node.Char y h = absurd (true≢false (sym h))
  above_to node.Text node.Text h = refl
  above_to node.Text y h = absurd (true≢false (sym h))
  above_to node.Blob node.Blob h = refl
  above_to node.Blob y h = absurd (true≢false (sym h))
  above_to node.Principal node.Principal h = refl
  above_to node.Principal y h = absurd (true≢false (sym h))
  above_to node.Error node.Error h = refl
  above_to node.Error y h = absurd (true≢false (sym h))
  above_to node.Null node.Null h = inl refl
  above_to node.Null (node.Opt b) h = inr (b, refl)
  above_to node.Null y (inl h) = absurd (true≢false (sym h))
  above_to node.Null y (inr h) = absurd h
  above_to node.Any y h = h
  above_to node.Bottom y h = tt
  above_to (node.Opt a) (node.Opt b) h = (b, refl, h)
  above_to (node.Opt a) y h = absurd h
  above_to (node.Array a) (node.Array b) h = (b, refl, h)
  above_to (node.Array a) y h = absurd h
  above_to (node.MutArray a) (node.MutArray b) h = (b, refl, h.0, h.1)
  above_to (node.MutArray a) y h = absurd h
  above_to (node.Tuple ts) (node.Tuple us) h = (us, refl, h)
  above_to (node.Tuple ts) y h = absurd h
  above_to (node.Object fs) (node.Object gs) h = (gs, refl, h)
  above_to (node.Object fs) y h = absurd h
  above_to (node.Actor fs) (node.Actor gs) h = (gs, refl, h)
  above_to (node.Actor fs) y h = absurd h
  above_to (node.Variant fs) (node.Variant gs) h = (gs, refl, h)
  above_to (node.Variant fs) y h = absurd h
  above_to (node.Func s ps rs) (node.Func r qs ss) h = (qs, ss, ap (λ s. node.Func s qs ss) (sym h.0), h.1, h.2)
  above_to (node.Func s ps rs) y h = absurd h
  above_to (node.Async a) (node.Async b) h = (b, refl, h)
  above_to (node.Async a) y h = absurd h
  above_to (node.Variable v b) (node.Variable w c) h = same_number v w b c (nat_eq v w) refl h
  above_to (node.Variable v b) y h = inr h

  variable_any : (v : ℕ) (b : A) (y : Node A) → R b u → HeadBelow R u (node.Variable v b) y
  variable_any v b (node.Variable w c) r = unless (nat_eq v w) (R b u) r
  variable_any v b y r = r

  above_from : (x y : Node A) → OtherAbove R u x y → HeadBelow R u x y
  above_from (node.Number k) y (j, e, h) = subst (HeadBelow R u (node.Number k)) (sym e) h
  above_from node.Bool y e = subst (HeadBelow R u node.Bool) (sym e) refl
  above_from node.Char y e = subst (HeadBelow R u node.Char) (sym e) refl
  above_from node.Text y e = subst (HeadBelow R u node.Text) (sym e) refl
  above_from node.Blob y e = subst (HeadBelow R u node.Blob) (sym e) refl
  above_from node.Principal y e = subst (HeadBelow R u node.Principal) (sym e) refl
  above_from node.Error y e = subst (HeadBelow R u node.Error) (sym e) refl
  above_from node.Null y (inl e) = subst (HeadBelow R u node.Null) (sym e) (inl refl)
  above_from node.Null y (inr (b, e)) = subst (HeadBelow R u node.Null) (sym e) (inr tt)
  above_from node.Any y h = h
  above_from node.Bottom y h = tt
  above_from (node.Opt a) y (b, e, h) = subst (HeadBelow R u (node.Opt a)) (sym e) h
  above_from (node.Array a) y (b, e, h) = subst (HeadBelow R u (node.Array a)) (sym e) h
  above_from (node.MutArray a) y (b, e, p, q) = subst (HeadBelow R u (node.MutArray a)) (sym e) (p, q)
  above_from (node.Tuple ts) y (us, e, h) = subst (HeadBelow R u (node.Tuple ts)) (sym e) h
  above_from (node.Object fs) y (gs, e, h) = subst (HeadBelow R u (node.Object fs)) (sym e) h
  above_from (node.Actor fs) y (gs, e, h) = subst (HeadBelow R u (node.Actor fs)) (sym e) h
  above_from (node.Variant fs) y (gs, e, h) = subst (HeadBelow R u (node.Variant fs)) (sym e) h
  above_from (node.Func s ps rs) y (qs, ss, e, p, q) = subst (HeadBelow R u (node.Func s ps rs)) (sym e) (refl, p, q)
  above_from (node.Async a) y (b, e, h) = subst (HeadBelow R u (node.Async a)) (sym e) h
  above_from (node.Variable v b) y (inl (c, e)) = subst (HeadBelow R u (node.Variable v b)) (sym e) (subst (λ s. Unless s (R b u)) (sym ((unsigned_Decides v v).1 refl)) tt)
  above_from (node.Variable v b) y (inr r) = variable_any v b y r

  pub node_above : (x y : Node A) → NodeBelow R u x y → IsAbove R u x y
  node_above x y (inl e) = inl (any_is y e)
  node_above x y (inr h) = inr (above_to x y h)

  pub above_node : (x y : Node A) → IsAbove R u x y → NodeBelow R u x y
  above_node x y (inl e) = inl (ap is_any e)
  above_node x y (inr h) = inr (above_from x y h)

  turn : (x y : Node A) → OtherAbove R u x y → IsBelow R u y x
  turn (node.Number k) y (j, e, h) = subst (λ y. IsBelow R u y (node.Number k)) (sym e) (inr (inr (k, refl, h)))
  turn node.Bool y e = subst (λ y. IsBelow R u y node.Bool) (sym e) (inr (inr refl))
  turn node.Char y e = subst (λ y. IsBelow R u y node.Char) (sym e) (inr (inr refl))
  turn node.Text y e = subst (λ y. IsBelow R u y node.Text) (sym e) (inr (inr refl))
  turn node.Blob y e = subst (λ y. IsBelow R u y node.Blob) (sym e) (inr (inr refl))
  turn node.Principal y e = subst (λ y. IsBelow R u y node.Principal) (sym e) (inr (inr refl))
  turn node.Error y e = subst (λ y. IsBelow R u y node.Error) (sym e) (inr (inr refl))
  turn node.Null y (inl e) = subst (λ y. IsBelow R u y node.Null) (sym e) (inr (inr refl))
  turn node.Null y (inr (b, e)) = subst (λ y. IsBelow R u y node.Null) (sym e) (inr (inr (inl refl)))
  turn node.Any y h = absurd h
  turn node.Bottom y h = inl refl
  turn (node.Opt a) y (b, e, h) = subst (λ y. IsBelow R u y (node.Opt a)) (sym e) (inr (inr (inr (a, refl, h))))
  turn (node.Array a) y (b, e, h) = subst (λ y. IsBelow R u y (node.Array a)) (sym e) (inr (inr (a, refl, h)))
  turn (node.MutArray a) y (b, e, p, q) = subst (λ y. IsBelow R u y (node.MutArray a)) (sym e) (inr (inr (a, refl, p, q)))
  turn (node.Tuple ts) y (b, e, h) = subst (λ y. IsBelow R u y (node.Tuple ts)) (sym e) (inr (inr (ts, refl, h)))
  turn (node.Object fs) y (b, e, h) = subst (λ y. IsBelow R u y (node.Object fs)) (sym e) (inr (inr (fs, refl, h)))
  turn (node.Actor fs) y (b, e, h) = subst (λ y. IsBelow R u y (node.Actor fs)) (sym e) (inr (inr (fs, refl, h)))
  turn (node.Variant fs) y (b, e, h) = subst (λ y. IsBelow R u y (node.Variant fs)) (sym e) (inr (inr (fs, refl, h)))
  turn (node.Func s ps rs) y (qs, ss, e, p, q) = subst (λ y. IsBelow R u y (node.Func s ps rs)) (sym e) (inr (inr (ps, rs, refl, p, q)))
  turn (node.Async a) y (b, e, h) = subst (λ y. IsBelow R u y (node.Async a)) (sym e) (inr (inr (a, refl, h)))
  turn (node.Variable v b) y (inl (c, e)) = subst (λ y. IsBelow R u y (node.Variable v b)) (sym e) (inr (inr (b, refl)))
  turn (node.Variable v b) y (inr r) = inr (inl (v, b, refl, r))

  pub above_below : (x y : Node A) → IsAbove R u x y → IsBelow R u y x
  above_below x y (inl e) = subst (λ y. IsBelow R u y x) (sym e) (inr (inr tt))
  above_below x y (inr h) = turn x y h

  back : (x y : Node A) → OtherBelow R u y x → IsAbove R u x y
  back x (node.Number j) (k, e, h) = subst (λ x. IsAbove R u x (node.Number j)) (sym e) (inr (j, refl, h))
  back x node.Bool e = subst (λ x. IsAbove R u x node.Bool) (sym e) (inr refl)
  back x node.Char e = subst (λ x. IsAbove R u x node.Char) (sym e) (inr refl)
  back x node.Text e = subst (λ x. IsAbove R u x node.Text) (sym e) (inr refl)
  back x node.Blob e = subst (λ x. IsAbove R u x node.Blob) (sym e) (inr refl)
  back x node.Principal e = subst (λ x. IsAbove R u x node.Principal) (sym e) (inr refl)
  back x node.Error e = subst (λ x. IsAbove R u x node.Error) (sym e) (inr refl)
  back x node.Null e = subst (λ x. IsAbove R u x node.Null) (sym e) (inr (inl refl))
  back x node.Any h = inl refl
  back x node.Bottom h = absurd h
  back x (node.Opt b) (inl e) = subst (λ x. IsAbove R u x (node.Opt b)) (sym e) (inr (inr (b, refl)))
  back x (node.Opt b) (inr (a, e, h)) = subst (λ x. IsAbove R u x (node.Opt b)) (sym e) (inr (b, refl, h))
  back x (node.Array b) (c, e, h) = subst (λ x. IsAbove R u x (node.Array b)) (sym e) (inr (b, refl, h))
  back x (node.MutArray b) (c, e, p, q) = subst (λ x. IsAbove R u x (node.MutArray b)) (sym e) (inr (b, refl, p, q))
  back x (node.Tuple us) (c, e, h) = subst (λ x. IsAbove R u x (node.Tuple us)) (sym e) (inr (us, refl, h))
  back x (node.Object gs) (c, e, h) = subst (λ x. IsAbove R u x (node.Object gs)) (sym e) (inr (gs, refl, h))
  back x (node.Actor gs) (c, e, h) = subst (λ x. IsAbove R u x (node.Actor gs)) (sym e) (inr (gs, refl, h))
  back x (node.Variant gs) (c, e, h) = subst (λ x. IsAbove R u x (node.Variant gs)) (sym e) (inr (gs, refl, h))
  back x (node.Func s qs ss) (ps, rs, e, p, q) = subst (λ x. IsAbove R u x (node.Func s qs ss)) (sym e) (inr (qs, ss, refl, p, q))
  back x (node.Async b) (c, e, h) = subst (λ x. IsAbove R u x (node.Async b)) (sym e) (inr (b, refl, h))
  back x (node.Variable w c) (b, e) = subst (λ x. IsAbove R u x (node.Variable w c)) (sym e) (inr (inl (c, refl)))

  pub below_above : (x y : Node A) → IsBelow R u y x → IsAbove R u x y
  below_above x y (inl e) = subst (λ x. IsAbove R u x y) (sym e) (inr tt)
  below_above x y (inr (inl (v, b, e, r))) = subst (λ x. IsAbove R u x y) (sym e) (inr (inr r))
  below_above x y (inr (inr h)) = back x y h

module _ {A : Type 0} (head : A → Node A) (t u : A) where
  pub to_above : IsSubtype head t u → IsAbove (IsSubtype head) u (head t) (head u)
  to_above s = node_above (IsSubtype head) u (head t) (head u) (taken head t u s)

  pub from_above : IsAbove (IsSubtype head) u (head t) (head u) → IsSubtype head t u
  from_above h = given head t u (above_node (IsSubtype head) u (head t) (head u) h)

  pub to_below : IsSubtype head t u → IsBelow (IsSubtype head) u (head u) (head t)
  to_below s = above_below (IsSubtype head) u (head t) (head u) (to_above s)

  pub from_below : IsBelow (IsSubtype head) u (head u) (head t) → IsSubtype head t u
  from_below h = from_above (below_above (IsSubtype head) u (head t) (head u) h)
