-- Labels of the source are among those of Core.
use Rattle.std.proofs.Common.{◌≡◌, ℕ, zero, suc, ◌<◌, Bool, true, List, Option, Some, None, slice_get, ap, arith}
use Rattle.core_ir.specs.Programs.{Group}
use Rattle.core_ir.specs.Values.{Value}
use Rattle.core_ir.specs.Expressions.{Body}
use Rattle.core_ir.specs.CoreMachine as core_machine
use Rattle.mo_machine.specs.Frames.{Stack}
use Rattle.elaboration_values.specs.Belonging.{Known}
use Rattle.elaboration_steps.specs.Stacks.{Labels, no_labels, with_label, with_own_label, StackBelongs, Bottom, InFunction, InGathering, InOperands, InMaking, InCalling, InHolding, InChoosing, InLet, InSwitch, InLabel, InTesting, InTurning, InRepeating, InRetesting, InTry, InUpdating, InGoing, InTurn, InBody, InBranch, InCase, InEndless}

abbrev pub Within : Labels → Type 0
Within l = (i : ℕ) (a : ℕ) → slice_get l.exits i ≡ Some a → a < l.count

none_within : Within no_labels
none_within i a e = absurd (let z : None ≡ Some a = e in cc)

abbrev get : ℕ → Option ℕ → ℕ
get d None = d
get d (Some a) = a

label_within : (l : Labels) → Within l → Within (with_label l)
label_within l h zero a e = let z : l.count ≡ a = ap (get 0) e in omega (arith, z)
label_within l h (suc i) a e = let z : a < l.count = h i a e in omega (arith, z)

own_within : (l : Labels) → Within l → Within (with_own_label l)
own_within l h i a e = let z : a < l.count = h i a e in omega (arith, z)

module _ (table : List (Group Body)) (known : List Known) (globals : List Value) (nodes : ℕ) where
  pub within : (b : Bool) (l : Labels) (held : ℕ) (k : Stack) (ck : List core_machine.Frame) → StackBelongs table known globals nodes b l held k ck → Within l
  within b l held k ck (Bottom c h js q) = none_within
  within b l held k ck (InFunction n c m h j js cj q r) = none_within
  within b l held k ck (InGathering n c m h f g done before next left j js cj q i e r) = none_within
  within b l held k ck (InOperands c m h a done rest env j before later vals cj g e d r) = within c m h j cj r
  within b l held k ck (InMaking x m h i a done rest args env j before later arguments vals cj row e d f r) = within x m h j cj r
  within b l held k ck (InCalling x m h i a holds done rest env j before later vals cj row e d r) = within x m h j cj r
  within b l held k ck (InHolding x m h i done env j n levels vals cj e d r) = within x m h j cj r
  within b l held k ck (InChoosing x m h y z env j c d vals cj p q r) = within x m h j cj r
  within b l held k ck (InLet x m h p e env j c vals cj q r) = within x m h j cj r
  within b l held k ck (InSwitch x m h cs env j c vals cj q r) = within x m h j cj r
  within b l held k ck (InLabel x m h j cj r) = label_within m (within x m h j cj r)
  within b l held k ck (InTesting x m h y z env j c d vals cj p q r) = own_within m (within x m h j cj r)
  within b l held k ck (InTurning x m h y z env j c d vals cj p q r) = own_within m (within x m h j cj r)
  within b l held k ck (InEndless x m h y env j d vals cj q r) = within x m h j cj r
  within b l held k ck (InRepeating x m h y z env j c d vals cj p q r) = own_within m (within x m h j cj r)
  within b l held k ck (InRetesting x m h y z env j c d v vals cj p q r) = own_within m (within x m h j cj r)
  within b l held k ck (InTry m h p e env j c vals cj q r) = within true m h j cj r
  within b l held k ck (InUpdating x m h o e env j c vals cj q r) = within x m h j cj r
  within b l held k ck (InGoing x m h p e env j c vals cj d r) = within x m h j cj r
  within b l held k ck (InTurn x m h p e env v j c w vals cj i d r) = own_within m (within x m h j cj r)
  within b l held k ck (InBody x m h p e env inner v j c w vals js cj a i d r) = own_within m (within x m h j cj r)
  within b l held k ck (InBranch x m h j joins cj q r) = within x m h j cj r
  within b l held k ck (InCase x m h less j vals skips cj q p r) = own_within m (within x m less j cj r)
