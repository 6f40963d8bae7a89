-- The moments of a read that the shared cache answered: those of its own party, behind the passes of its scan.
use Rattle.std.proofs.Common.{◌≡◌, ℕ, zero, suc, ◌<◌, false, IsTrue, List, [], ◌∷◌, ◌++◌, refl, sym, ap, ◌∙◌, subst, eq-eqb}
use Rattle.std.specs.List.{AllByRecursion}
use Rattle.std.proofs.lemmas.Bool.{false≢true}
use mathlib.Core.Option.{some, some-injective, some-ne-none}
use lib.ListN.{get_elem?}
use Rattle.arc_core.specs.declared.config.Config.{Config}
use Rattle.arc_core.specs.declared.event.Event.{Event}
use Rattle.arc_core.specs.declared.event.Event.TheVariants.{Pass, Hit, Miss, Arrive, Fail, Drop, Past, Hand, Insert, Release, Pick, FeedEnd, Set, Leave, Clear, Restore, Resize}
use Rattle.arc_core.specs.Operations.{Moment, goes_on, is_pass, moments, number_of, own_moments}
use Rattle.arc_core.specs.PlainShard.{PlainShard}
use Rattle.arc_core.specs.Replay.{replay}
use Rattle.arc_core.specs.Step.{after}
use Rattle.arc_table.specs.scans.Scanning.{ArePasses}
use Rattle.arc_table.specs.Seen.{AreOwn, AreOwnBy, IsNumberOf, pass_owner}

abbrev pub moment : PlainShard → Event → Moment
moment s e = record { before = s; event = e }

-- an event of one's own that is no pass
pub own-one : (n : ℕ) (s : PlainShard) (e : Event) → number_of e ≡ n → is_pass e ≡ false → own_moments n (moments s (e ∷ [])) ≡ moment s e ∷ []
own-one n s e his none = rw (eq-eqb (number_of e) n his, none) refl

-- the passes of a scan are left out
pub own-behind : (g : Config) (n turn : ℕ) (s : PlainShard) (passes : List Event) (e : Event) → ArePasses g n turn passes
    → own_moments n (moments s (passes ++ e ∷ [])) ≡ own_moments n (moments (replay s passes) (e ∷ []))
own-behind g n turn s [] e all = refl
own-behind g n turn s (Pass a k owner ∷ es) e all = rw (eq-eqb a n all.0.0) (own-behind g n turn (after s (Pass a k owner)) es e all.1)
own-behind g n turn s (Hit a k t ∷ es) e all = absurd all
own-behind g n turn s (Miss a k t ∷ es) e all = absurd all
own-behind g n turn s (Arrive a k d from ∷ es) e all = absurd all
own-behind g n turn s (Fail a k at ∷ es) e all = absurd all
own-behind g n turn s (Drop a k ∷ es) e all = absurd all
own-behind g n turn s (Past a k kept ∷ es) e all = absurd all
own-behind g n turn s (Hand a k to ∷ es) e all = absurd all
own-behind g n turn s (Insert a k d t ∷ es) e all = absurd all
own-behind g n turn s (Release a k sole ∷ es) e all = absurd all
own-behind g n turn s (Pick a k ∷ es) e all = absurd all
own-behind g n turn s (FeedEnd a ∷ es) e all = absurd all
own-behind g n turn s (Set a k place ∷ es) e all = absurd all
own-behind g n turn s (Leave a k why ∷ es) e all = absurd all
own-behind g n turn s (Clear a k ∷ es) e all = absurd all
own-behind g n turn s (Restore a k place d ∷ es) e all = absurd all
own-behind g n turn s (Resize a c ∷ es) e all = absurd all

-- ---- whose events they are

pub own-none : {b : ℕ} (n : ℕ) → AreOwn b n []
own-none n z e at = absurd (some-ne-none e (sym at))

-- one event that is no pass
pub own-single-by : (May : (n number : ℕ) → Type 0) {b : ℕ} (n : ℕ) (e : Event) → May n (number_of e) → is_pass e ≡ false → AreOwnBy May b n (e ∷ [])
own-single-by May n e his none zero x at = let is : e ≡ x = some-injective e x at in
    (subst (λ (y : Event). May n (number_of y)) is his, (λ pass. absurd (false≢true (sym none ∙ (ap is_pass is ∙ pass)))), (λ pass. absurd (false≢true (sym none ∙ (ap is_pass is ∙ pass)))))
own-single-by May n e his none (suc z) x at = absurd (some-ne-none x (sym at))

pub own-single : {b : ℕ} (n : ℕ) (e : Event) → number_of e ≡ n → is_pass e ≡ false → AreOwn b n (e ∷ [])
own-single n e his none = own-single-by IsNumberOf n e his none

-- the first of a scan's events, the last of which is this
first-goes-on : (g : Config) (n turn : ℕ) (passes : List Event) (e : Event) → ArePasses g n turn passes → IsTrue (goes_on n e)
    → (x : Event) × (get_elem? (passes ++ e ∷ []) 0 ≡ some x) × IsTrue (goes_on n x)
first-goes-on g n turn [] e all goes = (e, refl, goes)
first-goes-on g n turn (x ∷ xs) e all goes = (x, refl, pass-goes-on g n turn x xs all)
  where
    pass-goes-on : (g : Config) (n turn : ℕ) (x : Event) (xs : List Event) → ArePasses g n turn (x ∷ xs) → IsTrue (goes_on n x)
    pass-goes-on g n turn (Pass a k owner) xs all = eq-eqb a n all.0.0
    pass-goes-on g n turn (Hit a k t) xs all = absurd all
    pass-goes-on g n turn (Miss a k t) xs all = absurd all
    pass-goes-on g n turn (Arrive a k d from) xs all = absurd all
    pass-goes-on g n turn (Fail a k at) xs all = absurd all
    pass-goes-on g n turn (Drop a k) xs all = absurd all
    pass-goes-on g n turn (Past a k kept) xs all = absurd all
    pass-goes-on g n turn (Hand a k to) xs all = absurd all
    pass-goes-on g n turn (Insert a k d t) xs all = absurd all
    pass-goes-on g n turn (Release a k sole) xs all = absurd all
    pass-goes-on g n turn (Pick a k) xs all = absurd all
    pass-goes-on g n turn (FeedEnd a) xs all = absurd all
    pass-goes-on g n turn (Set a k place) xs all = absurd all
    pass-goes-on g n turn (Leave a k why) xs all = absurd all
    pass-goes-on g n turn (Clear a k) xs all = absurd all
    pass-goes-on g n turn (Restore a k place d) xs all = absurd all
    pass-goes-on g n turn (Resize a c) xs all = absurd all

pass-is : (g : Config) (n turn : ℕ) (x : Event) (xs : List Event) → ArePasses g n turn (x ∷ xs) → (number_of x ≡ n) × ArePasses g n turn xs
pass-is g n turn (Pass a k owner) xs all = (all.0.0, all.1)
pass-is g n turn (Hit a k t) xs all = absurd all
pass-is g n turn (Miss a k t) xs all = absurd all
pass-is g n turn (Arrive a k d from) xs all = absurd all
pass-is g n turn (Fail a k at) xs all = absurd all
pass-is g n turn (Drop a k) xs all = absurd all
pass-is g n turn (Past a k kept) xs all = absurd all
pass-is g n turn (Hand a k to) xs all = absurd all
pass-is g n turn (Insert a k d t) xs all = absurd all
pass-is g n turn (Release a k sole) xs all = absurd all
pass-is g n turn (Pick a k) xs all = absurd all
pass-is g n turn (FeedEnd a) xs all = absurd all
pass-is g n turn (Set a k place) xs all = absurd all
pass-is g n turn (Leave a k why) xs all = absurd all
pass-is g n turn (Clear a k) xs all = absurd all
pass-is g n turn (Restore a k place d) xs all = absurd all
pass-is g n turn (Resize a c) xs all = absurd all

-- the passes of a scan, each of which names one of so many parties, and the event behind them
pub own-scan : (May : (n number : ℕ) → Type 0) (b : ℕ) (g : Config) (n turn : ℕ) (passes : List Event) (e : Event) → May n n → ArePasses g n turn passes → AllByRecursion (λ x. pass_owner x < b) passes
    → May n (number_of e) × (is_pass e ≡ false) × IsTrue (goes_on n e) → AreOwnBy May b n (passes ++ e ∷ [])
own-scan May b g n turn [] e itself all named fits z x at = own-single-by May n e fits.0 fits.1 z x at
own-scan May b g n turn (y ∷ ys) e itself all named fits zero x at =
    let is : y ≡ x = some-injective y x at in
    let h = pass-is g n turn y ys all in
    (subst (May n) (sym (ap number_of (sym is) ∙ h.0)) itself, (λ pass. first-goes-on g n turn ys e h.1 fits.2), (λ pass. subst (λ (v : Event). pass_owner v < b) is named.0))
own-scan May b g n turn (y ∷ ys) e itself all named fits (suc z) x at = own-scan May b g n turn ys e itself (pass-is g n turn y ys all).1 named.1 fits z x at
