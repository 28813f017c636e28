-- The head of a type by what is found of it.
use Rattle.std.proofs.Common.{◌≡◌, List, true, Some, refl, ap}
use Rattle.mo_num.specs.declared.kind.Kind.{Kind}
use Rattle.mo_types.specs.declared.node.Node.{Node}
use Rattle.mo_types.specs.declared.node.Node.TheVariants as node
use Rattle.mo_types.specs.declared.node.Field.{Field}
use Rattle.mo_types.specs.declared.node.Sort.{Sort}
use Rattle.mo_types.specs.Heads.{number_of, is_bool, is_char, is_text, is_blob, is_null, opt_of, array_of, mut_array_of, tuple_of, object_of, actor_of, variant_of, func_of, async_of}

module _ {A : Type 0} where
  pub is_number : (x : Node A) (z : Kind) → number_of x ≡ Some z → x ≡ node.Number z
  is_number (node.Number k) z e = let g : k ≡ z = cc in ap (λ (w : Kind). node.Number w) g
  is_number node.Bool z e = cc
  is_number node.Char z e = cc
  is_number node.Text z e = cc
  is_number node.Blob z e = cc
  is_number node.Principal z e = cc
  is_number node.Error z e = cc
  is_number node.Null z e = cc
  is_number node.Any z e = cc
  is_number node.Bottom z e = cc
  is_number (node.Opt a) z e = cc
  is_number (node.Array a) z e = cc
  is_number (node.MutArray a) z e = cc
  is_number (node.Tuple ts) z e = cc
  is_number (node.Object fs) z e = cc
  is_number (node.Actor fs) z e = cc
  is_number (node.Variant fs) z e = cc
  is_number (node.Func s ps rs) z e = cc
  is_number (node.Async a) z e = cc
  is_number (node.Variable v b) z e = cc

  pub is_option : (x : Node A) (z : A) → opt_of x ≡ Some z → x ≡ node.Opt z
  is_option (node.Number k) z e = cc
  is_option node.Bool z e = cc
  is_option node.Char z e = cc
  is_option node.Text z e = cc
  is_option node.Blob z e = cc
  is_option node.Principal z e = cc
  is_option node.Error z e = cc
  is_option node.Null z e = cc
  is_option node.Any z e = cc
  is_option node.Bottom z e = cc
  is_option (node.Opt a) z e = let g : a ≡ z = cc in ap (λ (w : A). node.Opt w) g
  is_option (node.Array a) z e = cc
  is_option (node.MutArray a) z e = cc
  is_option (node.Tuple ts) z e = cc
  is_option (node.Object fs) z e = cc
  is_option (node.Actor fs) z e = cc
  is_option (node.Variant fs) z e = cc
  is_option (node.Func s ps rs) z e = cc
  is_option (node.Async a) z e = cc
  is_option (node.Variable v b) z e = cc

  pub is_array : (x : Node A) (z : A) → array_of x ≡ Some z → x ≡ node.Array z
  is_array (node.Number k) z e = cc
  is_array node.Bool z e = cc
  is_array node.Char z e = cc
  is_array node.Text z e = cc
  is_array node.Blob z e = cc
  is_array node.Principal z e = cc
  is_array node.Error z e = cc
  is_array node.Null z e = cc
  is_array node.Any z e = cc
  is_array node.Bottom z e = cc
  is_array (node.Opt a) z e = cc
  is_array (node.Array a) z e = let g : a ≡ z = cc in ap (λ (w : A). node.Array w) g
  is_array (node.MutArray a) z e = cc
  is_array (node.Tuple ts) z e = cc
  is_array (node.Object fs) z e = cc
  is_array (node.Actor fs) z e = cc
  is_array (node.Variant fs) z e = cc
  is_array (node.Func s ps rs) z e = cc
  is_array (node.Async a) z e = cc
  is_array (node.Variable v b) z e = cc

  pub is_mutable_array : (x : Node A) (z : A) → mut_array_of x ≡ Some z → x ≡ node.MutArray z
  is_mutable_array (node.Number k) z e = cc
  is_mutable_array node.Bool z e = cc
  is_mutable_array node.Char z e = cc
  is_mutable_array node.Text z e = cc
  is_mutable_array node.Blob z e = cc
  is_mutable_array node.Principal z e = cc
  is_mutable_array node.Error z e = cc
  is_mutable_array node.Null z e = cc
  is_mutable_array node.Any z e = cc
  is_mutable_array node.Bottom z e = cc
  is_mutable_array (node.Opt a) z e = cc
  is_mutable_array (node.Array a) z e = cc
  is_mutable_array (node.MutArray a) z e = let g : a ≡ z = cc in ap (λ (w : A). node.MutArray w) g
  is_mutable_array (node.Tuple ts) z e = cc
  is_mutable_array (node.Object fs) z e = cc
  is_mutable_array (node.Actor fs) z e = cc
  is_mutable_array (node.Variant fs) z e = cc
  is_mutable_array (node.Func s ps rs) z e = cc
  is_mutable_array (node.Async a) z e = cc
  is_mutable_array (node.Variable v b) z e = cc

  pub is_tuple : (x : Node A) (z : List A) → tuple_of x ≡ Some z → x ≡ node.Tuple z
  is_tuple (node.Number k) z e = cc
  is_tuple node.Bool z e = cc
  is_tuple node.Char z e = cc
  is_tuple node.Text z e = cc
  is_tuple node.Blob z e = cc
  is_tuple node.Principal z e = cc
  is_tuple node.Error z e = cc
  is_tuple node.Null z e = cc
  is_tuple node.Any z e = cc
  is_tuple node.Bottom z e = cc
  is_tuple (node.Opt a) z e = cc
  is_tuple (node.Array a) z e = cc
  is_tuple (node.MutArray a) z e = cc
  is_tuple (node.Tuple ts) z e = let g : ts ≡ z = cc in ap (λ (w : List A). node.Tuple w) g
  is_tuple (node.Object fs) z e = cc
  is_tuple (node.Actor fs) z e = cc
  is_tuple (node.Variant fs) z e = cc
  is_tuple (node.Func s ps rs) z e = cc
  is_tuple (node.Async a) z e = cc
  is_tuple (node.Variable v b) z e = cc

  pub is_object : (x : Node A) (z : List (Field A)) → object_of x ≡ Some z → x ≡ node.Object z
  is_object (node.Number k) z e = cc
  is_object node.Bool z e = cc
  is_object node.Char z e = cc
  is_object node.Text z e = cc
  is_object node.Blob z e = cc
  is_object node.Principal z e = cc
  is_object node.Error z e = cc
  is_object node.Null z e = cc
  is_object node.Any z e = cc
  is_object node.Bottom z e = cc
  is_object (node.Opt a) z e = cc
  is_object (node.Array a) z e = cc
  is_object (node.MutArray a) z e = cc
  is_object (node.Tuple ts) z e = cc
  is_object (node.Object fs) z e = let g : fs ≡ z = cc in ap (λ (w : List (Field A)). node.Object w) g
  is_object (node.Actor fs) z e = cc
  is_object (node.Variant fs) z e = cc
  is_object (node.Func s ps rs) z e = cc
  is_object (node.Async a) z e = cc
  is_object (node.Variable v b) z e = cc

  pub is_actor : (x : Node A) (z : List (Field A)) → actor_of x ≡ Some z → x ≡ node.Actor z
  is_actor (node.Number k) z e = cc
  is_actor node.Bool z e = cc
  is_actor node.Char z e = cc
  is_actor node.Text z e = cc
  is_actor node.Blob z e = cc
  is_actor node.Principal z e = cc
  is_actor node.Error z e = cc
  is_actor node.Null z e = cc
  is_actor node.Any z e = cc
  is_actor node.Bottom z e = cc
  is_actor (node.Opt a) z e = cc
  is_actor (node.Array a) z e = cc
  is_actor (node.MutArray a) z e = cc
  is_actor (node.Tuple ts) z e = cc
  is_actor (node.Object fs) z e = cc
  is_actor (node.Actor fs) z e = let g : fs ≡ z = cc in ap (λ (w : List (Field A)). node.Actor w) g
  is_actor (node.Variant fs) z e = cc
  is_actor (node.Func s ps rs) z e = cc
  is_actor (node.Async a) z e = cc
  is_actor (node.Variable v b) z e = cc

  pub is_variant : (x : Node A) (z : List (Field A)) → variant_of x ≡ Some z → x ≡ node.Variant z
  is_variant (node.Number k) z e = cc
  is_variant node.Bool z e = cc
  is_variant node.Char z e = cc
  is_variant node.Text z e = cc
  is_variant node.Blob z e = cc
  is_variant node.Principal z e = cc
  is_variant node.Error z e = cc
  is_variant node.Null z e = cc
  is_variant node.Any z e = cc
  is_variant node.Bottom z e = cc
  is_variant (node.Opt a) z e = cc
  is_variant (node.Array a) z e = cc
  is_variant (node.MutArray a) z e = cc
  is_variant (node.Tuple ts) z e = cc
  is_variant (node.Object fs) z e = cc
  is_variant (node.Actor fs) z e = cc
  is_variant (node.Variant fs) z e = let g : fs ≡ z = cc in ap (λ (w : List (Field A)). node.Variant w) g
  is_variant (node.Func s ps rs) z e = cc
  is_variant (node.Async a) z e = cc
  is_variant (node.Variable v b) z e = cc

  pub is_function : (x : Node A) (z : Sort × List A × List A) → func_of x ≡ Some z → x ≡ node.Func z.0 z.1 z.2
  is_function (node.Number k) z e = cc
  is_function node.Bool z e = cc
  is_function node.Char z e = cc
  is_function node.Text z e = cc
  is_function node.Blob z e = cc
  is_function node.Principal z e = cc
  is_function node.Error z e = cc
  is_function node.Null z e = cc
  is_function node.Any z e = cc
  is_function node.Bottom z e = cc
  is_function (node.Opt a) z e = cc
  is_function (node.Array a) z e = cc
  is_function (node.MutArray a) z e = cc
  is_function (node.Tuple ts) z e = cc
  is_function (node.Object fs) z e = cc
  is_function (node.Actor fs) z e = cc
  is_function (node.Variant fs) z e = cc
  is_function (node.Func s ps rs) z e = let g : (s, ps, rs) ≡ z = cc in ap (λ (q : Sort × List A × List A). node.Func q.0 q.1 q.2) g
  is_function (node.Async a) z e = cc
  is_function (node.Variable v b) z e = cc

  pub is_future : (x : Node A) (z : A) → async_of x ≡ Some z → x ≡ node.Async z
  is_future (node.Number k) z e = cc
  is_future node.Bool z e = cc
  is_future node.Char z e = cc
  is_future node.Text z e = cc
  is_future node.Blob z e = cc
  is_future node.Principal z e = cc
  is_future node.Error z e = cc
  is_future node.Null z e = cc
  is_future node.Any z e = cc
  is_future node.Bottom z e = cc
  is_future (node.Opt a) z e = cc
  is_future (node.Array a) z e = cc
  is_future (node.MutArray a) z e = cc
  is_future (node.Tuple ts) z e = cc
  is_future (node.Object fs) z e = cc
  is_future (node.Actor fs) z e = cc
  is_future (node.Variant fs) z e = cc
  is_future (node.Func s ps rs) z e = cc
  is_future (node.Async a) z e = let g : a ≡ z = cc in ap (λ (w : A). node.Async w) g
  is_future (node.Variable v b) z e = cc

  pub has_flags : (x : Node A) → is_bool x ≡ true → x ≡ node.Bool
  has_flags (node.Number k) e = cc
  has_flags node.Bool e = refl
  has_flags node.Char e = cc
  has_flags node.Text e = cc
  has_flags node.Blob e = cc
  has_flags node.Principal e = cc
  has_flags node.Error e = cc
  has_flags node.Null e = cc
  has_flags node.Any e = cc
  has_flags node.Bottom e = cc
  has_flags (node.Opt a) e = cc
  has_flags (node.Array a) e = cc
  has_flags (node.MutArray a) e = cc
  has_flags (node.Tuple ts) e = cc
  has_flags (node.Object fs) e = cc
  has_flags (node.Actor fs) e = cc
  has_flags (node.Variant fs) e = cc
  has_flags (node.Func s ps rs) e = cc
  has_flags (node.Async a) e = cc
  has_flags (node.Variable v b) e = cc

  pub has_characters : (x : Node A) → is_char x ≡ true → x ≡ node.Char
  has_characters (node.Number k) e = cc
  has_characters node.Bool e = cc
  has_characters node.Char e = refl
  has_characters node.Text e = cc
  has_characters node.Blob e = cc
  has_characters node.Principal e = cc
  has_characters node.Error e = cc
  has_characters node.Null e = cc
  has_characters node.Any e = cc
  has_characters node.Bottom e = cc
  has_characters (node.Opt a) e = cc
  has_characters (node.Array a) e = cc
  has_characters (node.MutArray a) e = cc
  has_characters (node.Tuple ts) e = cc
  has_characters (node.Object fs) e = cc
  has_characters (node.Actor fs) e = cc
  has_characters (node.Variant fs) e = cc
  has_characters (node.Func s ps rs) e = cc
  has_characters (node.Async a) e = cc
  has_characters (node.Variable v b) e = cc

  pub has_texts : (x : Node A) → is_text x ≡ true → x ≡ node.Text
  has_texts (node.Number k) e = cc
  has_texts node.Bool e = cc
  has_texts node.Char e = cc
  has_texts node.Text e = refl
  has_texts node.Blob e = cc
  has_texts node.Principal e = cc
  has_texts node.Error e = cc
  has_texts node.Null e = cc
  has_texts node.Any e = cc
  has_texts node.Bottom e = cc
  has_texts (node.Opt a) e = cc
  has_texts (node.Array a) e = cc
  has_texts (node.MutArray a) e = cc
  has_texts (node.Tuple ts) e = cc
  has_texts (node.Object fs) e = cc
  has_texts (node.Actor fs) e = cc
  has_texts (node.Variant fs) e = cc
  has_texts (node.Func s ps rs) e = cc
  has_texts (node.Async a) e = cc
  has_texts (node.Variable v b) e = cc

  pub has_blobs : (x : Node A) → is_blob x ≡ true → x ≡ node.Blob
  has_blobs (node.Number k) e = cc
  has_blobs node.Bool e = cc
  has_blobs node.Char e = cc
  has_blobs node.Text e = cc
  has_blobs node.Blob e = refl
  has_blobs node.Principal e = cc
  has_blobs node.Error e = cc
  has_blobs node.Null e = cc
  has_blobs node.Any e = cc
  has_blobs node.Bottom e = cc
  has_blobs (node.Opt a) e = cc
  has_blobs (node.Array a) e = cc
  has_blobs (node.MutArray a) e = cc
  has_blobs (node.Tuple ts) e = cc
  has_blobs (node.Object fs) e = cc
  has_blobs (node.Actor fs) e = cc
  has_blobs (node.Variant fs) e = cc
  has_blobs (node.Func s ps rs) e = cc
  has_blobs (node.Async a) e = cc
  has_blobs (node.Variable v b) e = cc

  pub has_null : (x : Node A) → is_null x ≡ true → x ≡ node.Null
  has_null (node.Number k) e = cc
  has_null node.Bool e = cc
  has_null node.Char e = cc
  has_null node.Text e = cc
  has_null node.Blob e = cc
  has_null node.Principal e = cc
  has_null node.Error e = cc
  has_null node.Null e = refl
  has_null node.Any e = cc
  has_null node.Bottom e = cc
  has_null (node.Opt a) e = cc
  has_null (node.Array a) e = cc
  has_null (node.MutArray a) e = cc
  has_null (node.Tuple ts) e = cc
  has_null (node.Object fs) e = cc
  has_null (node.Actor fs) e = cc
  has_null (node.Variant fs) e = cc
  has_null (node.Func s ps rs) e = cc
  has_null (node.Async a) e = cc
  has_null (node.Variable v b) e = cc
