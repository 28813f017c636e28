-- The call that is prepared, where it is not changed.
use Rattle.std.proofs.Common.{◌≡◌, ◌+◌, ◌++◌, ℕ, true, false, cond, List, Option, Some, None, Result, length, nat_le, refl, sym, subst, ap}
use Rattle.std.specs.Option.{is_some}
use Rattle.ic0_world.specs.declared.call.CallEnd.{CallEnd}
use Rattle.ic0_world.specs.declared.world.Callback.{Callback}
use Rattle.ic0_world.specs.declared.world.OutgoingCall.{OutgoingCall}
use Rattle.ic0_world.specs.declared.world.World.{World}
use Rattle.ic0_world.specs.Act.{Did, Gives, Does, misuse, with_call, with_prepared, set_first, set_cleanup, append_argument, longest_message}

-- A call that is put back where it was leaves the world as it was.
put_back : (w : World) (call : OutgoingCall) → w.prepared ≡ Some call → record w { prepared = Some call } ≡ w
put_back w call is = sym (ap (λ o. record w { prepared = o }) is)

-- What the prepared call is refused for is a misuse in the world as it was.
pub refused : (w : World) (call : OutgoingCall) (next : OutgoingCall → Did) (r : Result (Option ℕ) CallEnd) (memory : List ℕ) (new : World)
    → w.prepared ≡ Some call → next call ≡ misuse w → Does (misuse (record w { prepared = Some call })) r memory new → Does (with_prepared w next) r memory new
refused w call next r memory new is broken did =
    subst (λ o. Does (with_call o w next) r memory new) (sym is) (subst (λ d. Does d r memory new) (sym broken) (subst (λ v. Does (misuse v) r memory new) (put_back w call is) did))

second : (before : Option Callback) (callback : Callback) (call : OutgoingCall) (memory : List ℕ) (w : World) → is_some before ≡ true → set_first before callback call memory w ≡ misuse w
second None callback call memory w h = absurd (cc)
second (Some before) callback call memory w h = refl

pub cleaned_before : (callback : Callback) (call : OutgoingCall) (memory : List ℕ) (w : World) → is_some call.on_cleanup ≡ true → set_cleanup callback call memory w ≡ misuse w
cleaned_before callback call memory w h = second call.on_cleanup callback call memory w h

pub too_long : (more : List ℕ) (call : OutgoingCall) (memory : List ℕ) (w : World) → nat_le (length call.argument + length more) longest_message ≡ false → append_argument more call memory w ≡ misuse w
too_long more call memory w h = ap (λ b. cond b (Gives None memory (record w { prepared = Some (record call { argument = call.argument ++ more }) })) (misuse w)) h
