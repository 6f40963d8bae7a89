-- How the lines `feed` of a run are answered, over all its groups; and a cache device that no line feeds was only lent.
use Rattle.std.proofs.Common.{◌≡◌, ◌≤◌, ℕ, true, false, Bool, if◌then◌else◌, List, [], ◌∷◌, ◌++◌, Option, Some, None, length, refl, sym, ap, ◌∙◌, subst, inl, inr, arith}
use Rattle.std.specs.Prelude.{◌⊎◌, filter}
use Rattle.std.specs.List.{list_any}
use Rattle.std.proofs.lemmas.Bool.{false≢true}
use Rattle.std.proofs.lemmas.List.{map-append}
use Rattle.std.proofs.lemmas.List.Elements.{filter-append}
use Rattle.arc_lists.proofs.Tables.{cases_true}
use Rattle.blk_ptr.specs.declared.ptr.Ptr.{Ptr}
use Rattle.vdev_io.specs.declared.device.CacheDev.{Ghosts}
use Rattle.turn_table.specs.Places.{Place}
use Rattle.arc_table.specs.declared.view.Known.{Known}
use Rattle.arc_table.specs.Cache.{Cache}
use Rattle.arc_table.specs.Items.{Meanings}
use Rattle.trace_text.specs.declared.op.Op.{Op}
use Rattle.trace_text.specs.declared.op.Op.TheVariants as ops
use Rattle.trace_text.specs.declared.reply.Reply.{Reply}
use Rattle.trace_run.specs.declared.device.Device.{Device}
use Rattle.trace_run.specs.declared.device.Device.TheVariants as device
use Rattle.trace_run.specs.declared.ran.Ending.{Ending}
use Rattle.trace_run.specs.declared.ran.Ending.TheVariants.{Fork, Full, Sync, Whole}
use Rattle.trace_run.specs.Devices.{WasLent}
use Rattle.trace_run.specs.Feeds.{AreFedReplies, AsksOfFeeds, FeedDone, MadeFeedsOf, is_feed}
use Rattle.trace_run.specs.Lines.{is_further, replies_where}
use Rattle.trace_run.specs.dbufs.Objects.{Line, ops_of, replies_of}
use Rattle.trace_run.specs.RunWork.{plain_lines}
use Rattle.trace_run.specs.callers.Beside.{TriesBeside}
use Rattle.trace_run.specs.callers.DeviceForks.{GivesFork, GivesForks, TakesForkBack, TakesForksBack, UsedAtOnce, UsedInGroups}
use Rattle.trace_run.specs.callers.Together.{GroupLines, ends_group, groups_begun, groups_done, groups_of, with_first}
use Rattle.trace_run.proofs.DeviceLemmas.{lent-same, lent-then}
use Rattle.trace_run.proofs.callers.BesideLemmas.{none-found}
use Rattle.trace_run.proofs.feeds.FeedLemmas.{answered-then, none-answered}
use Rattle.trace_run.proofs.FurtherLemmas.{first-done}
use Rattle.trace_run.proofs.theorem.WorkLemmas.{no-feed}

-- ---- the lines among others

-- those that ask for a feed
abbrev pub feed_lines : List Line → List Line
feed_lines = filter (λ l. is_feed l.op)

pub ops-fed : (ls : List Line) → ops_of (feed_lines ls) ≡ filter is_feed (ops_of ls)
ops-fed [] = refl
ops-fed (l ∷ ls) = elim (cases_true (is_feed l.op)) [
  | inl asks ↦ rw asks (ap (λ (os : List Op). l.op ∷ os) (ops-fed ls))
  | inr other ↦ rw other (ops-fed ls)
]

pub replies-fed : (ls : List Line) → replies_of (feed_lines ls) ≡ replies_where is_feed (ops_of ls) (replies_of ls)
replies-fed [] = refl
replies-fed (l ∷ ls) = elim (cases_true (is_feed l.op)) [
  | inl asks ↦ rw asks (ap (λ (rs : List Reply). l.reply ∷ rs) (replies-fed ls))
  | inr other ↦ rw other (replies-fed ls)
]

ends-unfed : (op : Op) → ends_group op ≡ true → is_feed op ≡ false
ends-unfed (ops.Txg t) ends = refl
ends-unfed (ops.Cap c) ends = refl
ends-unfed ops.Feed ends = absurd (false≢true ends)
ends-unfed (ops.Read n t x window) ends = refl
ends-unfed (ops.Hold n t x) ends = refl
ends-unfed (ops.Drop n x) ends = refl
ends-unfed (ops.Get n t at window) ends = refl
ends-unfed (ops.Put n t at size fill) ends = refl
ends-unfed (ops.Patch n t at from bytes) ends = refl
ends-unfed (ops.Pin n t at) ends = refl
ends-unfed (ops.Unpin n at) ends = refl

-- the lines of groups, without those that end them
abbrev lines_inside : List GroupLines → List Line
lines_inside [] = []
lines_inside (g ∷ gs) = g.lines ++ lines_inside gs

first-inside : (l : Line) (gs : List GroupLines) → lines_inside (with_first l gs) ≡ l ∷ lines_inside gs
first-inside l [] = refl
first-inside l (g ∷ gs) = refl

-- lines with one more in front, which ends a group or doesn't
inside-more : (l : Line) (gs all : List GroupLines) (ls : List Line) → feed_lines (lines_inside gs) ≡ feed_lines ls → all ≡ (if ends_group l.op then (record { lines = []; end = Some l } ∷ gs) else with_first l gs) → feed_lines (lines_inside all) ≡ feed_lines (l ∷ ls)
inside-more l gs all ls same is = elim (cases_true (ends_group l.op)) [
  | inl ends ↦
      let first : all ≡ record { lines = []; end = Some l } ∷ gs = is ∙ ap (λ (b : Bool). if b then (record { lines = []; end = Some l } ∷ gs) else with_first l gs) ends in
      ap (λ (x : List GroupLines). feed_lines (lines_inside x)) first ∙ (same ∙ sym (skipped (ends-unfed l.op ends)))
  | inr inside ↦
      let first : all ≡ with_first l gs = is ∙ ap (λ (b : Bool). if b then (record { lines = []; end = Some l } ∷ gs) else with_first l gs) inside in
      ap (λ (x : List GroupLines). feed_lines (lines_inside x)) first ∙ (ap feed_lines (first-inside l gs) ∙ taken (cases_true (is_feed l.op)))
]
  where
    skipped : is_feed l.op ≡ false → feed_lines (l ∷ ls) ≡ feed_lines ls
    skipped other = rw other refl

    taken : (is_feed l.op ≡ true) ⊎ (is_feed l.op ≡ false) → feed_lines (l ∷ lines_inside gs) ≡ feed_lines (l ∷ ls)
    taken (inl asks) = rw asks (ap (λ (x : List Line). l ∷ x) same)
    taken (inr other) = rw other same

inside-of : (ls : List Line) → feed_lines (lines_inside (groups_of ls)) ≡ feed_lines ls
inside-of [] = refl
inside-of (l ∷ ls) = inside-more l (groups_of ls) (groups_of (l ∷ ls)) ls (inside-of ls) refl

inside-begun : (ls : List Line) → feed_lines (lines_inside (groups_begun ls)) ≡ feed_lines ls
inside-begun [] = refl
inside-begun (l ∷ ls) = inside-more l (groups_begun ls) (groups_begun (l ∷ ls)) ls (inside-begun ls) refl

inside-done : (ending : Ending) (ls : List Line) → feed_lines (lines_inside (groups_done ending ls)) ≡ feed_lines ls
inside-done Whole ls = inside-of ls
inside-done Fork ls = inside-of ls
inside-done Sync ls = inside-begun ls
inside-done (Full need left) ls = inside-begun ls

-- ---- one device all along

module _ {D : Type 0} (devices : Ghosts D) where
  -- both are there, or none is
  abbrev pub IsAlso : Option D → Option D → Type 0
  IsAlso None None = Unit {0}
  IsAlso None (Some b) = ⊥
  IsAlso (Some a) None = ⊥
  IsAlso (Some a) (Some b) = Unit {0}

  pub also-same : (a b : Option D) → b ≡ a → IsAlso a b
  also-same None None is = tt
  also-same None (Some b) is = cc
  also-same (Some a) None is = cc
  also-same (Some a) (Some b) is = tt

  pub also-then : (a b c : Option D) → IsAlso a b → IsAlso b c → IsAlso a c
  also-then None None None first second = tt
  also-then None None (Some c) first second = absurd second
  also-then None (Some b) c first second = absurd first
  also-then (Some a) None c first second = absurd first
  also-then (Some a) (Some b) None first second = absurd second
  also-then (Some a) (Some b) (Some c) first second = tt

  gives-also : (forks : List (Option D)) (a b : Option D) → GivesForks devices forks a b → IsAlso a b
  gives-also [] a b gave = also-same a b gave
  gives-also (fork ∷ forks) a b gave = also-then a gave.0 b (one a gave.0 gave.1) (gives-also forks gave.0 b gave.2)
    where
      one : (x y : Option D) → GivesFork devices fork x y → IsAlso x y
      one None None once = tt
      one None (Some y) once = absurd once
      one (Some x) None once = absurd once
      one (Some x) (Some y) once = tt

  takes-also : (forks : List (Option D)) (a b : Option D) → TakesForksBack devices forks a b → IsAlso a b
  takes-also [] a b took = also-same a b took
  takes-also (fork ∷ forks) a b took = also-then a took.0 b (one fork a took.0 took.1) (takes-also forks took.0 b took.2)
    where
      one : (f : Option D) (x y : Option D) → TakesForkBack devices f x y → IsAlso x y
      one f None None once = tt
      one f None (Some y) once = absurd once
      one f (Some x) None once = absurd once
      one f (Some x) (Some y) once = tt

  pub asks-also : (fs : List FeedDone) (a b : Option D) → AsksOfFeeds devices fs a b → IsAlso a b
  asks-also fs None None asked = tt
  asks-also fs None (Some b) asked = absurd asked
  asks-also fs (Some a) None asked = absurd asked
  asks-also fs (Some a) (Some b) asked = tt

  once-also : (blocks : List Ptr) (callers : ℕ) (lines : List Line) (fs : List FeedDone) (a b : Option D) → UsedAtOnce devices blocks callers lines fs a b → IsAlso a b
  once-also blocks callers lines fs a b once =
      also-then a once.lent b (gives-also once.read.forks a once.lent once.read.given) (also-then once.lent once.later b (asks-also fs once.lent once.later once.fed) (takes-also once.read.done once.later b once.read.back))

  pub also-answered : (a b : Option D) (ls : List Op) (fs : List FeedDone) (rs : List Reply) → IsAlso a b → AreFedReplies b ls fs rs → AreFedReplies a ls fs rs
  also-answered None None ls fs rs also so = so
  also-answered None (Some b) ls fs rs also so = absurd also
  also-answered (Some a) None ls fs rs also so = absurd also
  also-answered (Some a) (Some b) ls fs rs also so = so

  -- ---- all groups

  -- these lines are answered by these feeds
  abbrev AreAnsweredBy : Option D → List Line → List FeedDone → Type 0
  AreAnsweredBy a ls fs = AreFedReplies a (ops_of (feed_lines ls)) fs (replies_of (feed_lines ls))

  groups-answered : (blocks : List Ptr) (callers : ℕ) (gs : List GroupLines) (fs : List FeedDone) (a b : Option D) → UsedInGroups devices blocks callers gs fs a b → AreAnsweredBy a (lines_inside gs) fs
  groups-answered blocks callers [] fs a b used = subst (λ (l : List FeedDone). AreFedReplies a [] l []) (sym used.0) (none-answered a)
  groups-answered blocks callers (g ∷ gs) fs a b used =
      let once = used.4 in
      let here : AreAnsweredBy a g.lines used.1 = subst (λ (x : List Op × List Reply). AreFedReplies a x.0 used.1 x.1) (λ i. (sym (ops-fed g.lines) i, sym (replies-fed g.lines) i)) once.answered in
      let behind : AreAnsweredBy a (lines_inside gs) used.2 =
      also-answered a used.0 (ops_of (feed_lines (lines_inside gs))) used.2 (replies_of (feed_lines (lines_inside gs))) (once-also blocks callers g.lines used.1 a used.0 once) (groups-answered blocks callers gs used.2 used.0 b used.5) in
      let both : feed_lines (g.lines ++ lines_inside gs) ≡ feed_lines g.lines ++ feed_lines (lines_inside gs) = filter-append _ g.lines (lines_inside gs) in
      subst (λ (x : List Op × List FeedDone × List Reply). AreFedReplies a x.0 x.1 x.2)
      (λ i. (
        sym (ap ops_of both ∙ map-append (λ (l : Line). l.op) (feed_lines g.lines) (feed_lines (lines_inside gs))) i,
        sym used.3 i,
        sym (ap replies_of both ∙ map-append (λ (l : Line). l.reply) (feed_lines g.lines) (feed_lines (lines_inside gs))) i,
      ))
      (answered-then a (ops_of (feed_lines g.lines)) (ops_of (feed_lines (lines_inside gs))) used.1 used.2 (replies_of (feed_lines g.lines)) (replies_of (feed_lines (lines_inside gs))) here behind)

  -- the lines `feed` of a run are answered by its feeds, or by none where no device was started
  pub used-answered : (blocks : List Ptr) (callers : ℕ) (ending : Ending) (ls : List Line) (fs : List FeedDone) (a b : Option D) → UsedInGroups devices blocks callers (groups_done ending ls) fs a b
      → AreFedReplies a (filter is_feed (ops_of ls)) fs (replies_where is_feed (ops_of ls) (replies_of ls))
  used-answered blocks callers ending ls fs a b used =
      subst (λ (x : List Op × List Reply). AreFedReplies a x.0 fs x.1)
      (λ i. ((ap ops_of (inside-done ending ls) ∙ ops-fed ls) i, (ap replies_of (inside-done ending ls) ∙ replies-fed ls) i)) (groups-answered blocks callers (groups_done ending ls) fs a b used)

-- and so where one caller's lines did nothing beside their replies: none of them asks for a feed
pub plain-answered : {D : Type 0} (a : Option D) (os : List Op) (rs : List Reply) → list_any is_further os ≡ false
    → AreFedReplies a (filter is_feed (ops_of (plain_lines os rs))) [] (replies_where is_feed (ops_of (plain_lines os rs)) (replies_of (plain_lines os rs)))
plain-answered a os rs done =
    subst (λ (x : List Op × List Reply). AreFedReplies a x.0 [] x.1) (λ i. (ops-fed (plain_lines os rs) i, replies-fed (plain_lines os rs) i))
    (subst (λ (ls : List Line). AreFedReplies a (ops_of ls) [] (replies_of ls)) (sym (none-left os rs done)) (none-answered a))
  where
    none-left : (os : List Op) (rs : List Reply) → list_any is_further os ≡ false → feed_lines (plain_lines os rs) ≡ []
    none-left [] rs done = refl
    none-left (o ∷ os) [] done = refl
    none-left (o ∷ os) (r ∷ rs) done = let h = first-done is_further o os done in rw (no-feed o h.0) (none-left os rs h.1)

-- ---- a device that is fed by no line

module _ {C D : Type 0} (m : Meanings C) (devices : Ghosts D) (cache : Cache) where
  unfed-lent : (fs : List FeedDone) (a b : Device D) (p q : Place (Known C)) → fs ≡ [] → MadeFeedsOf m devices cache fs a b p q → WasLent devices a b
  unfed-lent fs a b p q none made = go a b (subst (λ (l : List FeedDone). MadeFeedsOf m devices cache l a b p q) none made)
    where
      go : (x y : Device D) → MadeFeedsOf m devices cache [] x y p q → WasLent devices x y
      go device.None device.None made = tt
      go (device.Short x) (device.Short y) made = made.1
      go (device.Ready x) (device.Ready y) made = subst (WasLent devices (device.Ready x)) (sym (ap (λ l. device.Ready l) (made.0 refl))) (lent-same devices (device.Ready x))
      go device.None (device.Short y) made = absurd made
      go device.None (device.Ready y) made = absurd made
      go (device.Short x) device.None made = absurd made
      go (device.Short x) (device.Ready y) made = absurd made
      go (device.Ready x) device.None made = absurd made
      go (device.Ready x) (device.Short y) made = absurd made

  -- so it was where no line asks for a feed
  pub unasked-lent : (os : List Op) (a b : Device D) (p q : Place (Known C)) → list_any is_feed os ≡ false → TriesBeside m devices cache os a b p q → WasLent devices a b
  unasked-lent os a b p q none tried =
      let u = tried.used in
      let few = tried.few in
      let no_lines : length (filter is_feed os) ≡ 0 = ap length (none-found os none) in
      let empty : tried.feeds ≡ [] = no-elements tried.feeds (omega (arith, few, no_lines)) in
      lent-then devices a u.lent b u.gave (lent-then devices u.lent u.later b (unfed-lent tried.feeds u.lent u.later p q empty u.made) u.took)
    where
      no-elements : {X : Type 0} (xs : List X) → length xs ≤ 0 → xs ≡ []
      no-elements [] few = refl
      no-elements (x ∷ xs) few = absurd (omega (arith, few))
