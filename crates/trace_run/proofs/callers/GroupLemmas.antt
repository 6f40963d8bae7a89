-- Several callers at once: from what each did on its own to what all have done.
use Rattle.std.proofs.Common.{◌≡◌, ℕ, zero, suc, ◌+◌, ◌<◌, List, [], ◌∷◌, length, get_or, map, Option, refl, sym, ap, ◌∙◌, subst, arith}
use Rattle.std.specs.Prelude.{Err, IfOk, Ok, Result, Vec, filter, sum_by}
use Rattle.std.specs.List.{AllByRecursion, AllZip}
use Rattle.std.specs.declared.alloc.Global.{Global}
use Rattle.std.proofs.lemmas.List.{length-map}
use mathlib.Core.Option.{some, some-injective, some-ne-none}
use lib.ListN.{get_elem?}
use Rattle.blk_ptr.specs.declared.memory.NoMemory.{NoMemory}
use Rattle.blk_ptr.specs.declared.ptr.Ptr.{Ptr}
use Rattle.vdev_io.specs.declared.device.CacheDev.{Ghosts as DeviceGhosts}
use Rattle.vdev_io.specs.declared.pool.Pool.{Ghosts}
use Rattle.vdev_io.specs.Faults.{sum_of_counts}
use Rattle.arc_core.specs.declared.config.Config.{Config}
use Rattle.turn_table.specs.Places.{Place}
use Rattle.arc_table.specs.Cache.{Cache}
use Rattle.arc_table.specs.declared.view.Known.{Known}
use Rattle.trace_text.specs.declared.op.Op.{Op}
use Rattle.trace_text.specs.declared.reply.Reply.{Reply}
use Rattle.trace_run.specs.KeptReads.{KeptRead}
use Rattle.trace_run.specs.declared.group.Caller.{Caller}
use Rattle.trace_run.specs.declared.kept_blocks.KeptBlock.{KeptBlock}
use Rattle.trace_run.specs.callers.CallerLines.{At, DidLines, at}
use Rattle.trace_run.specs.callers.Callers.{AbsorbsAll, AllReplied, AreAtStart, AreEnlisted, CameTo, HasDone, HasTried, HaveComeBack, IsReady, Replied}
use Rattle.trace_run.specs.callers.DeviceForks.{AllAsk}
use Rattle.trace_run.specs.callers.Group.{HasWorked, HaveWorked, IsFork, RepliedAt}
use Rattle.trace_run.specs.callers.WorkLines.{AnswersLines, AreLinesOf, AsksGiven, IsWorkOf, LooksLines}
use Rattle.trace_run.specs.KeptBlocks.{Stands, read_of}
use Rattle.trace_run.specs.Lines.{is_of_caller}
use Rattle.trace_run.specs.dbufs.Objects.{Line}
use Rattle.trace_run.specs.one_caller.OverShards.{AreNamed}
use Rattle.trace_run.specs.Tally.{AreAnswered}
use Rattle.trace_run.specs.callers.Together.{over_callers}
use Rattle.trace_run.proofs.callers.AbsorbLemmas.{absorbed-leaves, absorbed-others, over-sum, sum-of-faults, sum-of-reads}

-- ---- lists, place by place

pub zip-of : {X : Type 0} (R : X → X → Type 0) (xs ys : List X) → length ys ≡ length xs → ((i : ℕ) (d : X) → i < length xs → R (get_or xs i d) (get_or ys i d)) → AllZip R xs ys
zip-of R [] [] long each = tt
zip-of R [] (y ∷ ys) long each = absurd (omega arith)
zip-of R (x ∷ xs) [] long each = absurd (omega arith)
zip-of R (x ∷ xs) (y ∷ ys) long each = (each 0 x (omega arith), zip-of R xs ys (omega arith) (λ i d lt. each (suc i) d (omega (arith, lt))))

-- what f makes of the element at a place
map-at : {A B : Type 0} (f : A → B) (xs : List A) (n : ℕ) (x : A) → get_elem? xs n ≡ some x → get_elem? (map f xs) n ≡ some (f x)
map-at f [] n x at = absurd (some-ne-none x (sym at))
map-at f (y ∷ ys) zero x at = ap (λ (z : _). some (f z)) (some-injective y x at)
map-at f (y ∷ ys) (suc n) x at = map-at f ys n x at

-- ---- one caller

-- lines that were done have their answers
pub lines-answers : {C P : Type 0} (g : Config) (pools : Ghosts P) (blocks : List Ptr) (os : List Op) (rs : List Reply) (a b : At C P) → DidLines g pools blocks os rs a b
    → AreAnswered (pools.size a.pool) (pools.told a.pool) blocks a.kept os rs
lines-answers g pools blocks [] [] a b did = tt
lines-answers g pools blocks [] (r ∷ rs) a b did = absurd did
lines-answers g pools blocks (o ∷ os) [] a b did = absurd did
lines-answers g pools blocks (o ∷ os) (r ∷ rs) a b did =
    let one = did.1 in
    (one.answer, subst (λ (x : ℕ × Option (List ℕ) × List KeptRead). AreAnswered x.0 x.1 blocks x.2 os rs) (λ h. (one.keeps.size h, one.keeps.told h, one.kept h)) (lines-answers g pools blocks os rs did.0 b did.2))

pub lines-number : {C P : Type 0} (g : Config) (pools : Ghosts P) (blocks : List Ptr) (os : List Op) (rs : List Reply) (a b : At C P) → DidLines g pools blocks os rs a b → b.party.number ≡ a.party.number
lines-number {C} {P} g pools blocks [] [] a b did = ap (λ (x : At C P). x.party.number) did
lines-number g pools blocks [] (r ∷ rs) a b did = absurd did
lines-number g pools blocks (o ∷ os) [] a b did = absurd did
lines-number g pools blocks (o ∷ os) (r ∷ rs) a b did = lines-number g pools blocks os rs did.0 b did.2 ∙ did.1.did.number

module _ {C P D : Type 0} (cache : Cache) (pools : Ghosts P) (devices : DeviceGhosts D) (blocks : List Ptr) (ops : List Op) where
  -- the caller's operations, as it was before them
  abbrev his_ops : Caller C P D → List Op
  his_ops old = filter (is_of_caller old.party.number) ops

  -- what they came to
  abbrev DoneBy : (old new : Caller C P D) → List Reply → Type 0
  DoneBy old new rs = HasDone cache pools devices blocks ops old.party.number old new rs

  abbrev pub CameBy : (old new : Caller C P D) → List Reply → Type 0
  CameBy old new rs = CameTo pools devices cache.config blocks (his_ops old) rs (at old.party (map read_of old.kept) old.pool) (at new.party (map read_of new.kept) new.pool) old.device new.device

  lines-done : (old new : Caller C P D) (rs : List Reply) → IsReady cache blocks old → Stands cache new.party new.kept → CameBy old new rs → DoneBy old new rs
  lines-done old new rs ready stands came = record {
    number = came.number;
    alone = came.joined ∙ ready.alone;
    stands = stands;
    lines = came.lines;
    are = came.are;
    fits = came.fits;
    kept = came.kept;
    told = came.told;
    cells = came.cells;
    answers = came.answers;
    looks = came.looks;
    calls = came.calls;
    asked = came.asked;
  }

  -- and of one whose lines are tried, where memory may be short
  pub lines-tried : (old new : Caller C P D) → IsReady cache blocks old → IfOk new.replies (λ replies. Stands cache new.party new.kept) → IfOk new.replies (λ replies. CameBy old new replies.items) → HasTried cache pools devices blocks ops old new
  lines-tried old new ready stands came = record { done = both new.replies stands came }
    where
      both : (r : Result (Vec Reply Global) NoMemory) → IfOk r (λ replies. Stands cache new.party new.kept) → IfOk r (λ replies. CameBy old new replies.items) → IfOk r (λ replies. DoneBy old new replies.items)
      both (Ok v) stood done = lines-done old new v.items ready stood done
      both (Err e) stood done = tt

  -- a caller that tried, and was answered so, has done its lines
  abbrev done-of : (old new : Caller C P D) (rs : List Reply) → HasTried cache pools devices blocks ops old new → (replied : Replied new rs) → DoneBy old new replied.all.items
  done-of old new rs tried replied = subst (λ (r : Result (Vec Reply Global) NoMemory). IfOk r (λ replies. DoneBy old new replies.items)) replied.replied tried.done

  replied-of : (old new : Caller C P D) (rs : List Reply) (n : ℕ) → old.party.number ≡ n → (tried : HasTried cache pools devices blocks ops old new) (replied : Replied new rs) → AreLinesOf (filter (is_of_caller n) ops) rs (done-of old new rs tried replied).lines
  replied-of old new rs n his tried replied =
      let done = done-of old new rs tried replied in
      subst (λ (x : ℕ × List Reply). AreLinesOf (filter (is_of_caller x.0) ops) x.1 done.lines) (λ i. (his i, replied.replies_are i)) done.are

  worked-of : (old new : Caller C P D) (rs : List Reply) (n : ℕ) → old.party.number ≡ n → (tried : HasTried cache pools devices blocks ops old new) (replied : Replied new rs)
      → HasWorked cache pools blocks n old.pool new.pool (done-of old new rs tried replied).lines old.kept old.party new.kept new.party
  worked-of old new rs n his tried replied =
      let done = done-of old new rs tried replied in
      record {
        fits = subst (λ (m : ℕ). AllByRecursion (IsWorkOf cache.config m) done.lines) his done.fits;
        waits = λ acts noted waits. record { number = done.number ∙ his; alone = done.alone; stands = done.stands; told = done.told acts noted waits.told };
        keeps = done.kept;
        cells = done.cells;
        answers = λ acts noted told place. subst
            (λ (m : ℕ). AnswersLines cache.config (pools.size old.pool) (pools.told old.pool) place blocks old.party.own.about.openings new.party.own.seen m noted (map read_of old.kept) done.lines) his (done.answers acts noted told place);
        looks = λ acts noted told. subst
            (λ (m : ℕ). LooksLines cache.config (pools.size old.pool) (pools.told old.pool) old.party.own.about.openings old.party.own.seen new.party.own.seen m noted done.lines) his (done.looks acts noted told);
        calls = done.calls;
      }

  -- ---- all callers

  -- callers before their lines, by their numbers from this one on
  abbrev AllStart : P → (n : ℕ) → List (Caller C P D) → Type 0
  AllStart pool n [] = Unit {0}
  AllStart pool n (caller ∷ callers) = (caller.party.number ≡ n) × IsReady cache blocks caller × IsFork pools pool caller.pool × AllStart pool (suc n) callers

  -- what callers that were made of these parties, reads and forks are
  record Enlisted (pool : P) (n : ℕ) (ps : List (Place (Known C))) (ks : List (List KeptBlock)) (callers : List (Caller C P D)) : Type 0 where
    pub start : AllStart pool n callers
    pub parties : map (λ caller. caller.party) callers ≡ ps
    pub keeps : map (λ caller. caller.kept) callers ≡ ks

  enlisted-start : (pool : P) (n : ℕ) (ps : List (Place (Known C))) (ks : List (List KeptBlock)) (forks : List P) (callers : List (Caller C P D)) → AreAtStart cache blocks n ks ps → AllByRecursion (IsFork pools pool) forks → AreEnlisted ps ks forks callers
      → Enlisted pool n ps ks callers
  enlisted-start pool n [] [] [] [] start fresh made = record { start = tt; parties = refl; keeps = refl }
  enlisted-start pool n [] [] [] (caller ∷ callers) start fresh made = absurd made
  enlisted-start pool n [] [] (fork ∷ forks) [] start fresh made = absurd made
  enlisted-start pool n [] [] (fork ∷ forks) (caller ∷ callers) start fresh made = absurd made
  enlisted-start pool n [] (k ∷ ks) forks callers start fresh made = absurd start
  enlisted-start pool n (p ∷ ps) [] forks callers start fresh made = absurd start
  enlisted-start pool n (p ∷ ps) (k ∷ ks) [] [] start fresh made = absurd made
  enlisted-start pool n (p ∷ ps) (k ∷ ks) [] (caller ∷ callers) start fresh made = absurd made
  enlisted-start pool n (p ∷ ps) (k ∷ ks) (fork ∷ forks) [] start fresh made = absurd made
  enlisted-start pool n (p ∷ ps) (k ∷ ks) (fork ∷ forks) (caller ∷ callers) start fresh made =
      let one = made.0 in
      let rest = enlisted-start pool (suc n) ps ks forks callers start.1 fresh.1 made.1 in
      let begins = start.0 in
      record {
        start = (
          ap (λ (q : Place (Known C)). q.number) one.party ∙ begins.number,
          record {
            alone = ap (λ (q : Place (Known C)). q.joined) one.party ∙ begins.alone;
            stands = subst (λ (x : Place (Known C) × List KeptBlock). Stands cache x.0 x.1) (λ i. (sym one.party i, sym one.keeps i)) begins.stands;
            named = subst (λ (x : List KeptBlock). AreNamed blocks (map read_of x)) (sym one.keeps) begins.named;
          },
          subst (IsFork pools pool) (sym one.pool) fresh.0,
          rest.start,
        );
        parties = λ i. one.party i ∷ rest.parties i;
        keeps = λ i. one.keeps i ∷ rest.keeps i;
      }

  starts-ready : (pool : P) (n : ℕ) (callers : List (Caller C P D)) → AllStart pool n callers → AllByRecursion (IsReady cache blocks) callers
  starts-ready pool n [] start = tt
  starts-ready pool n (caller ∷ callers) start = (start.1, starts-ready pool (suc n) callers start.3)

  -- callers that were made of these parties, reads and forks may begin
  pub enlisted-ready : (pool : P) (ps : List (Place (Known C))) (ks : List (List KeptBlock)) (forks : List P) (callers : List (Caller C P D)) → AreAtStart cache blocks 0 ks ps → AllByRecursion (IsFork pools pool) forks → AreEnlisted ps ks forks callers
      → AllByRecursion (IsReady cache blocks) callers
  enlisted-ready pool ps ks forks callers start fresh made = starts-ready pool 0 callers (enlisted-start pool 0 ps ks forks callers start fresh made).start

  replied-length : (news : List (Caller C P D)) (rss : List (List Reply)) → AllReplied news rss → length rss ≡ length news
  replied-length [] [] replied = refl
  replied-length [] (rs ∷ rss) replied = absurd replied
  replied-length (new ∷ news) [] replied = absurd replied
  replied-length (new ∷ news) (rs ∷ rss) replied = ap suc (replied-length news rss replied.1)

  tried-length : (olds news : List (Caller C P D)) → AllZip (HasTried cache pools devices blocks ops) olds news → length news ≡ length olds
  tried-length [] [] tried = refl
  tried-length [] (new ∷ news) tried = absurd tried
  tried-length (old ∷ olds) [] tried = absurd tried
  tried-length (old ∷ olds) (new ∷ news) tried = ap suc (tried-length olds news tried.1)

  abbrev pool_of : Caller C P D → P
  pool_of caller = caller.pool

  abbrev device_of : Caller C P D → Option D
  device_of caller = caller.device

  -- the lines of the caller at a place
  abbrev lines_at : (olds news : List (Caller C P D)) (rss : List (List Reply)) → AllZip (HasTried cache pools devices blocks ops) olds news → AllReplied news rss → (k : ℕ) → List Line
  lines_at [] news rss tried replied k = []
  lines_at (old ∷ olds) [] rss tried replied k = absurd tried
  lines_at (old ∷ olds) (new ∷ news) [] tried replied k = absurd replied
  lines_at (old ∷ olds) (new ∷ news) (rs ∷ rss) tried replied zero = (done-of old new rs tried.0 replied.0).lines
  lines_at (old ∷ olds) (new ∷ news) (rs ∷ rss) tried replied (suc k) = lines_at olds news rss tried.1 replied.1 k

  -- the work of one of these callers, by its place
  record WorkedHere (m k : ℕ) (fork done : P) (lines : List Line) (rss : List (List Reply)) (olds news : List (Caller C P D)) : Type 0 where
    pub own : List Reply
    pub own_at : get_elem? rss k ≡ some own
    pub are : AreLinesOf (filter (is_of_caller m) ops) own lines
    pub old : Caller C P D
    pub before : get_elem? olds k ≡ some old
    pub new : Caller C P D
    pub after : get_elem? news k ≡ some new
    pub worked : HasWorked cache pools blocks m fork done lines old.kept old.party new.kept new.party

  starts-fork : (pool : P) (n : ℕ) (olds : List (Caller C P D)) → AllStart pool n olds → (k : ℕ) → k < length olds → IsFork pools pool (get_or (map pool_of olds) k pool)
  starts-fork pool n [] start k lt = absurd (omega arith)
  starts-fork pool n (old ∷ olds) start zero lt = start.2
  starts-fork pool n (old ∷ olds) start (suc k) lt = starts-fork pool (suc n) olds start.3 k (omega arith)

  -- what the caller of each number has done
  worked-each : (pool : P) (n : ℕ) (olds news : List (Caller C P D)) (rss : List (List Reply)) → AllStart pool n olds → (tried : AllZip (HasTried cache pools devices blocks ops) olds news)
      (replied : AllReplied news rss) → (k m : ℕ) → m ≡ n + k → k < length olds
      → WorkedHere m k (get_or (map pool_of olds) k pool) (get_or (map pool_of news) k pool) (lines_at olds news rss tried replied k) rss olds news
  worked-each pool n [] news rss start tried replied k m is lt = absurd (omega arith)
  worked-each pool n (old ∷ olds) [] rss start tried replied k m is lt = absurd tried
  worked-each pool n (old ∷ olds) (new ∷ news) [] start tried replied k m is lt = absurd replied
  worked-each pool n (old ∷ olds) (new ∷ news) (rs ∷ rss) start tried replied zero m is lt = record {
    own = rs;
    own_at = refl;
    are = replied-of old new rs m (start.0 ∙ omega arith) tried.0 replied.0;
    old = old;
    before = refl;
    new = new;
    after = refl;
    worked = worked-of old new rs m (start.0 ∙ omega arith) tried.0 replied.0;
  }
  worked-each pool n (old ∷ olds) (new ∷ news) (rs ∷ rss) start tried replied (suc k) m is lt =
      let h = worked-each pool (suc n) olds news rss start.3 tried.1 replied.1 k m (omega arith) (omega arith) in
      record { own = h.own; own_at = h.own_at; are = h.are; old = h.old; before = h.before; new = h.new; after = h.after; worked = h.worked }

  -- what each asked its fork of the device
  asked-each : (n : ℕ) (olds news : List (Caller C P D)) (rss : List (List Reply)) (tried : AllZip (HasTried cache pools devices blocks ops) olds news) (replied : AllReplied news rss)
      (own : ℕ → List Line) → ((k m : ℕ) → m ≡ n + k → own m ≡ lines_at olds news rss tried replied k) → AllAsk devices blocks own n (map device_of olds) (map device_of news)
  asked-each n [] [] rss tried replied own are = tt
  asked-each n [] (new ∷ news) rss tried replied own are = absurd tried
  asked-each n (old ∷ olds) [] rss tried replied own are = absurd tried
  asked-each n (old ∷ olds) (new ∷ news) [] tried replied own are = absurd replied
  asked-each n (old ∷ olds) (new ∷ news) (rs ∷ rss) tried replied own are = (
    subst (λ (ls : List Line). AsksGiven devices blocks ls old.device new.device) (sym (are 0 n (omega arith))) (done-of old new rs tried.0 replied.0).asked,
    asked-each (suc n) olds news rss tried.1 replied.1 own (λ k m is. are (suc k) m (omega (arith, is))),
  )

  -- What the callers of a group came to: each has these lines, by its number, and asked its fork of the device for them.
  pub record DidOwn (callers : ℕ) (before after : P) (had : List (List KeptBlock)) (ps : List (Place (Known C))) (kept : List (List KeptBlock)) (qs : List (Place (Known C))) (rss : List (List Reply)) (given left : List (Option D)) : Type 0 where
    pub own : ℕ → List Line
    pub replied : length rss ≡ callers
    pub are : (n : ℕ) → n < callers → RepliedAt ops n (own n) rss
    pub worked : HaveWorked cache pools blocks callers before after own had ps kept qs
    pub asked : AllAsk devices blocks own 0 given left

  pub did-own : (old new : P) (ps : List (Place (Known C))) (ks : List (List KeptBlock)) (forks : List P) (olds news : List (Caller C P D)) (rss : List (List Reply)) (kept : List (List KeptBlock)) (qs : List (Place (Known C)))
      → AreAtStart cache blocks 0 ks ps → AllByRecursion (IsFork pools old) forks → AreEnlisted ps ks forks olds → AllZip (HasTried cache pools devices blocks ops) olds news
      → AbsorbsAll pools (map pool_of news) old new → HaveComeBack news rss qs kept → DidOwn (length ps) old new ks ps kept qs rss (map device_of olds) (map device_of news)
  did-own old new ps ks forks olds news rss kept qs start fresh made tried absorbs came = record {
    own = own;
    replied = replied-length news rss came.replied ∙ (same ∙ many);
    are = λ n lt. let h = here n lt in record { own = h.own; own_at = h.own_at; are = h.are };
    worked = record {
      kepts = ap length came.keeps ∙ (length-map news _ ∙ (same ∙ many));
      parties = ap length came.parties ∙ (length-map news _ ∙ (same ∙ many));
      forks = λ n. get_or (map pool_of olds) n old;
      done = λ n. get_or dones n old;
      fresh = λ n lt. starts-fork old 0 olds begun.start n (omega (arith, lt, many));
      each = λ n lt.
          let h = here n lt in
          record {
            old = h.old.kept;
            from = h.old.party;
            before = record {
              kept_at = ap (λ (l : List (List KeptBlock)). get_elem? l n) (sym begun.keeps) ∙ map-at (λ (caller : Caller C P D). caller.kept) olds n h.old h.before;
              party_at = ap (λ (l : List (Place (Known C))). get_elem? l n) (sym begun.parties) ∙ map-at (λ (caller : Caller C P D). caller.party) olds n h.old h.before;
            };
            new = h.new.kept;
            to = h.new.party;
            after = record {
              kept_at = ap (λ (l : List (List KeptBlock)). get_elem? l n) came.keeps ∙ map-at (λ (caller : Caller C P D). caller.kept) news n h.new h.after;
              party_at = ap (λ (l : List (Place (Known C))). get_elem? l n) came.parties ∙ map-at (λ (caller : Caller C P D). caller.party) news n h.new h.after;
            };
            worked = h.worked;
          };
      reads = λ some. sum-of-reads pools dones old new absorbs (omega (arith, some, long)) ∙ ap (sum_of_counts (pools.reads old)) (sym all_reads);
      faults = λ some. sum-of-faults pools dones old new absorbs (omega (arith, some, long)) ∙ ap (sum_of_counts (pools.faults old)) (sym all_faults);
      others = absorbed-others pools dones old new absorbs;
      keeps = absorbed-leaves pools dones old new absorbs;
    };
    asked = asked-each 0 olds news rss tried came.replied own (λ k m is. let same : m ≡ k = omega (arith, is) in ap own same);
  }
    where
      begun : Enlisted old 0 ps ks olds
      begun = enlisted-start old 0 ps ks forks olds start fresh made

      own : ℕ → List Line
      own n = lines_at olds news rss tried came.replied n

      many : length olds ≡ length ps
      many = sym (length-map olds (λ (caller : Caller C P D). caller.party)) ∙ ap length begun.parties

      same : length news ≡ length olds
      same = tried-length olds news tried

      dones : List P
      dones = map pool_of news

      long : length dones ≡ length ps
      long = length-map news pool_of ∙ (same ∙ many)

      all_reads : over_callers (length ps) (λ n. pools.reads (get_or dones n old)) ≡ sum_by pools.reads dones
      all_reads = ap (λ (l : ℕ). over_callers l (λ n. pools.reads (get_or dones n old))) (sym long) ∙ over-sum pools.reads dones old

      all_faults : over_callers (length ps) (λ n. pools.faults (get_or dones n old)) ≡ sum_by pools.faults dones
      all_faults = ap (λ (l : ℕ). over_callers l (λ n. pools.faults (get_or dones n old))) (sym long) ∙ over-sum pools.faults dones old

      here : (n : ℕ) → n < length ps → WorkedHere n n (get_or (map pool_of olds) n old) (get_or dones n old) (own n) rss olds news
      here n lt = worked-each old 0 olds news rss begun.start tried came.replied n n (omega arith) (omega (arith, lt, many))

-- there is a list of kept reads for each party
pub start-length : {C : Type 0} (cache : Cache) (blocks : List Ptr) (n : ℕ) (ks : List (List KeptBlock)) (ps : List (Place (Known C))) → AreAtStart cache blocks n ks ps → length ks ≡ length ps
start-length cache blocks n [] [] start = refl
start-length cache blocks n [] (p ∷ ps) start = absurd start
start-length cache blocks n (k ∷ ks) [] start = absurd start
start-length cache blocks n (k ∷ ks) (p ∷ ps) start = ap suc (start-length cache blocks (suc n) ks ps start.1)
