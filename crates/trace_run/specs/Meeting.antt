-- How parties join one and part from it, what they have seen then, and how each in turn gives back what it keeps.
use Rattle.std.specs.Prelude.{◌≡◌, ◌≢◌, ◌<◌, ℕ, suc, nat_lt, if◌then◌else◌, List, [], ◌∷◌, ◌++◌, map, length}
use Rattle.std.specs.List.{AllByRecursion}
use Rattle.arc_core.specs.declared.config.Config.{Config}
use Rattle.arc_core.specs.declared.event.Event.{Event}
use Rattle.arc_core.specs.declared.event.Event.TheVariants.{Resize}
use Rattle.arc_core.specs.Operations.{Act, moments, own_events, own_moments}
use Rattle.turn_table.specs.declared.standing.Kept.{Kept}
use Rattle.turn_table.specs.Moments.{WasSo}
use Rattle.turn_table.specs.Places.{Place, SomeHas, kept as as_kept, met, parted, stayed}
use Rattle.arc_table.specs.declared.view.Known.{Known}
use Rattle.arc_table.specs.declared.view.Line.{Line}
use Rattle.arc_table.specs.Cache.{Cache, IsPartyOf}
use Rattle.arc_table.specs.feeder.Listing.{picks_of}
use Rattle.arc_table.specs.Fronts.{StartsWith, front_of}
use Rattle.arc_table.specs.Geometry.{IsCell, parties_of}
use Rattle.arc_table.specs.Items.{Meanings}
use Rattle.arc_table.specs.pact.Rule.{Pact}
use Rattle.arc_table.specs.Seen.{events_in, seen_of, turn_of}
use Rattle.arc_table.specs.Telling.{opening_of}
use Rattle.trace_run.specs.Deeds.{HasToldAll, HasToldOthers, KeepsCells, Noted, SameMade, MakesFrom}
use Rattle.trace_run.specs.Making.{AreEventsSeen, AreNoEntries, HasSeenItsEvents, MadeItsOwn}
use Rattle.arc_table.specs.Views.{after_learned}
use Rattle.trace_run.specs.declared.kept_blocks.KeptBlock.{KeptBlock}
use Rattle.trace_run.specs.Acts.{acts_of_drops}
use Rattle.trace_run.specs.KeptBlocks.{Stands, held_in_shard, read_of}
use Rattle.trace_run.specs.one_caller.OneCaller.{events_of_drops}
use Rattle.trace_run.specs.Openings.{Knows}

-- of the number n's own events two have seen the same
abbrev pub HasSameOwn : Config → (n : ℕ) → (s t : List (List Line)) → Type 0
HasSameOwn g n s t = (shard : ℕ) → own_moments n (moments (opening_of g) (events_in (front_of (turn_of g shard) t)))
    ≡ own_moments n (moments (opening_of g) (events_in (front_of (turn_of g shard) s)))

-- ---- joins and parts

module _ {C : Type 0} where
  -- a party that no other has joined, that holds no turn, and has seen all that it made
  pub record MayJoin (cache : Cache) (p : Place (Known C)) : Type 0 where
    pub of : IsPartyOf cache p
    pub free : p.held ≡ []
    pub alone : p.joined ≡ []
    pub seen : HasSeenItsEvents cache.config p

  -- a party that no other has joined, that keeps something or nothing
  abbrev pub IsApart : Cache → Place (Known C) → Type 0
  IsApart cache p = (kept : List KeptBlock) × Stands cache p kept × (p.joined ≡ [])

  -- a party from which others may part
  abbrev pub MayPart : Cache → Place (Known C) → Type 0
  MayPart cache p = IsPartyOf cache p × (p.held ≡ [])

  -- parties of these numbers joined, each by itself, the first of them last
  abbrev pub AreLast : List ℕ → List (Kept (Known C)) → Type 0
  AreLast [] [] = Unit {0}
  AreLast (n ∷ ns) (k ∷ ks) = (k.number ≡ n) × (k.count ≡ 0) × AreLast ns ks
  AreLast _ _ = ⊥

  -- the parties of these numbers parted from p one after another, and are these; then it is q
  abbrev pub PartAll : (numbers : List ℕ) → Place (Known C) → List (Place (Known C)) → Place (Known C) → Type 0
  PartAll [] p [] q = q ≡ p
  PartAll (n ∷ ns) p (x ∷ xs) q = (x ≡ parted (λ w. after_learned w p.own) p p.joined) × PartAll ns (stayed p) xs q
  PartAll _ p _ q = ⊥

module _ {C : Type 0} (m : Meanings C) where
  -- o joined p, which is q then; at one moment the pact held with what both had known before
  pub record Joins (o p q : Place (Known C)) : Type 0 where
    pub moment : WasSo (Pact m) (met p o p.own)
    pub is : q ≡ met p o (after_learned p.own o.own)

  -- all these did, the first of them last
  abbrev pub JoinAll : List (Place (Known C)) → (p q : Place (Known C)) → Type 0
  JoinAll [] p q = q ≡ p
  JoinAll (o ∷ os) p q = (r : Place (Known C)) × JoinAll os p r × Joins o r q

-- ---- one party gives back what it keeps, while all others have joined it

module _ {C : Type 0} where
  -- these lines of each shard are what the party has seen
  abbrev pub IsLevel : Config → (ℕ → List Line) → Place (Known C) → Type 0
  IsLevel g lines p = (shard : ℕ) → front_of (turn_of g shard) p.own.seen ≡ lines shard

  -- these entries of each cell are what the party has seen
  abbrev pub SeesEntries : Config → (ℕ → List Line) → Place (Known C) → Type 0
  SeesEntries g entries p = (i : ℕ) → IsCell g i → front_of i p.own.seen ≡ entries i

  -- A party that stands by itself with these kept reads, and has done these acts, and this to cells.
  pub record Waits (cache : Cache) (n : ℕ) (acts : List Act) (noted : List Noted) (kept : List KeptBlock) (p : Place (Known C)) : Type 0 where
    pub number : p.number ≡ n
    pub alone : p.joined ≡ []
    pub stands : Stands cache p kept
    pub told : HasToldAll cache.config acts noted p

  -- the party lists no pick of any shard
  abbrev pub HasSettled : Place (Known C) → Type 0
  HasSettled p = (i : ℕ) → picks_of i p ≡ []

  -- The feeder's party stands by itself and keeps nothing, knows that the cells began so, and has settled all that it picked. These are the events of each shard that it made with its own number,
  -- and what it has seen begins with these. With the numbers of cells it has done these acts, and this to cells.
  pub record IsFed (cache : Cache) (openings : List (List ℕ)) (feeds begun : (shard : ℕ) → List Event) (acts : List Act) (noted : List Noted) (p : Place (Known C)) : Type 0 where
    pub number : p.number ≡ cache.config.callers
    pub alone : p.joined ≡ []
    pub stands : Stands cache p []
    pub knows : Knows openings p
    pub fed : (shard : ℕ) → shard < cache.config.shards → own_events p.number (seen_of cache.config shard p) ≡ feeds shard
    pub since : (shard : ℕ) → StartsWith (seen_of cache.config shard p) (begun shard)
    pub told : HasToldOthers cache.config acts noted p
    pub settled : HasSettled p

  -- q has seen all that o had, and behind it no event of o's own
  pub record HasLearned (g : Config) (o q : Place (Known C)) : Type 0 where
    pub starts : (i : ℕ) → StartsWith (front_of (turn_of g i) q.own.seen) (front_of (turn_of g i) o.own.seen)
    pub cells : (i : ℕ) → IsCell g i → StartsWith (front_of i q.own.seen) (front_of i o.own.seen)
    pub own : HasSameOwn g o.number o.own.seen q.own.seen

  -- The feeder's party, which is this one, has joined p and no other has. It keeps nothing, and knows that the cells began so.
  pub record IsJoinedBy (cache : Cache) (openings : List (List ℕ)) (o p : Place (Known C)) : Type 0 where
    pub number : o.number ≡ cache.config.callers
    pub stands : Stands cache o []
    pub knows : Knows openings o
    pub alone : o.joined ≡ []
    pub joined : p.joined ≡ as_kept o.number o.own 0 ∷ []
    pub only : AreNoEntries cache.config o.own.mine

  abbrev pub HasFeeder : Cache → (openings : List (List ℕ)) → Place (Known C) → Type 0
  HasFeeder cache openings p = (o : Place (Known C)) × IsJoinedBy cache openings o p

  -- What another party is once it has parted: it has its number, what it keeps and what it did, and has seen what all have.
  pub record HasParted (cache : Cache) (lines : ℕ → List Line) (old new : Place (Known C)) : Type 0 where
    pub level : IsLevel cache.config lines new
    pub number : new.number ≡ old.number
    pub about : new.own.about ≡ old.own.about
    pub alone : new.joined ≡ []
    pub stands : (kept : List KeptBlock) → Stands cache old kept → Stands cache new kept
    pub own : HasSameOwn cache.config old.number old.own.seen new.own.seen
    pub starts : (shard : ℕ) → StartsWith (seen_of cache.config shard new) (seen_of cache.config shard old)
    pub mine : new.own.mine ≡ old.own.mine
    pub ledger : new.own.ledger ≡ old.own.ledger
    pub only : MadeItsOwn cache.config old → MadeItsOwn cache.config new
    pub same : (kept : List KeptBlock) → Stands cache old kept → SameMade cache.config old new

  abbrev pub HaveParted : Cache → (ℕ → List Line) → (olds news : List (Place (Known C))) → Type 0
  HaveParted cache lines [] [] = Unit {0}
  HaveParted cache lines (o ∷ os) (x ∷ xs) = HasParted cache lines o x × HaveParted cache lines os xs
  HaveParted cache lines _ _ = ⊥

  -- each of these parties knows and has seen of cells at least what it had
  abbrev pub AllKeepCells : Config → (olds news : List (Place (Known C))) → Type 0
  AllKeepCells g [] [] = Unit {0}
  AllKeepCells g [] (x ∷ xs) = ⊥
  AllKeepCells g (o ∷ os) [] = ⊥
  AllKeepCells g (o ∷ os) (x ∷ xs) = KeepsCells g o x × AllKeepCells g os xs

  -- While all others had joined it, the party gave back what it kept. Then all have seen the same: where they had before, just its drops more.
  -- The others stand in their order, and then the party.
  pub record GaveBackJoined (cache : Cache) (p : Place (Known C)) (kept : List KeptBlock) (others news : List (Place (Known C))) : Type 0 where
    pub lines : ℕ → List Line
    pub rest : List (Place (Known C))
    pub last : Place (Known C)
    pub are : news ≡ rest ++ last ∷ []
    pub parted : HaveParted cache lines others rest
    pub level : IsLevel cache.config lines last
    pub cells : KeepsCells cache.config p last
    pub gave : (n : ℕ) (acts : List Act) (noted : List Noted) → Waits cache n acts noted kept p → Waits cache n (acts ++ acts_of_drops n (map read_of kept)) noted [] last
    pub fed : (openings : List (List ℕ)) (fed since : (shard : ℕ) → List Event) (acts : List Act) (noted : List Noted) → kept ≡ [] → IsFed cache openings fed since acts noted p → IsFed cache openings fed since acts noted last
    pub drops : (before : ℕ → List Line) → IsLevel cache.config before p → AllByRecursion (IsLevel cache.config before) others
        → (shard : ℕ) → events_in (lines shard) ≡ events_in (before shard) ++ events_of_drops p.number (held_in_shard cache.config shard (map read_of kept))
    -- and of cells they have seen no more than before, where all had seen the same
    pub same_cells : (entries : ℕ → List Line) → SeesEntries cache.config entries p → AllByRecursion (SeesEntries cache.config entries) others → AllByRecursion (SeesEntries cache.config entries) news

module _ {C : Type 0} where
  -- a party that keeps these reads, and all other parties, each by itself
  pub record MayGoOn (cache : Cache) (kept : List KeptBlock) (p : Place (Known C)) (others : List (Place (Known C))) : Type 0 where
    pub stands : Stands cache p kept
    pub alone : p.joined ≡ []
    pub count : p.parties ≡ parties_of cache.config
    pub apart : AllByRecursion (IsApart cache) others
    pub everyone : (n : ℕ) → n < parties_of cache.config → SomeHas n (p ∷ others)
    pub differ : AllByRecursion (λ o. o.number ≢ p.number) others

  -- so it is of the first of these parties
  abbrev pub FirstMayGoOn : Cache → List KeptBlock → List (Place (Known C)) → Type 0
  FirstMayGoOn cache kept [] = ⊥
  FirstMayGoOn cache kept (p ∷ others) = MayGoOn cache kept p others

  abbrev pub FirstGaveBack : Cache → List KeptBlock → (olds news : List (Place (Known C))) → Type 0
  FirstGaveBack cache kept [] news = ⊥
  FirstGaveBack cache kept (p ∷ others) news = GaveBackJoined cache p kept others news

-- ---- all callers give back what they keep, by rising caller

-- the drops of kept reads in a shard: first those of the caller n, and then of those behind it
abbrev pub drops_from : Config → (shard n : ℕ) → List (List KeptBlock) → List Event
drops_from g shard n [] = []
drops_from g shard n (k ∷ ks) = events_of_drops n (held_in_shard g shard (map read_of k)) ++ drops_from g shard (suc n) ks

module _ {C : Type 0} where
  -- callers by their numbers from this one on, which keep these reads
  abbrev pub AreWaiting : Cache → (ℕ → List Act) → (ℕ → List Noted) → (n : ℕ) → List (List KeptBlock) → List (Place (Known C)) → Type 0
  AreWaiting cache acts noted n [] [] = Unit {0}
  AreWaiting cache acts noted n (k ∷ ks) (p ∷ ps) = Waits cache n (acts n) (noted n) k p × AreWaiting cache acts noted (suc n) ks ps
  AreWaiting cache acts noted n _ _ = ⊥

  -- and once they have given them back
  abbrev pub AllGave : Cache → (ℕ → List Act) → (ℕ → List Noted) → (n : ℕ) → List (List KeptBlock) → List (Place (Known C)) → Type 0
  AllGave cache acts noted n [] [] = Unit {0}
  AllGave cache acts noted n (k ∷ ks) (p ∷ ps) = Waits cache n (acts n ++ acts_of_drops n (map read_of k)) (noted n) [] p × AllGave cache acts noted (suc n) ks ps
  AllGave cache acts noted n _ _ = ⊥

  -- All callers gave back what they kept, by rising caller; the feeder's party stands behind theirs. All have seen the same: of each shard what was
  -- so before, and then their drops.
  pub record HaveGivenBack (cache : Cache) (acts : ℕ → List Act) (noted : ℕ → List Noted) (openings : List (List ℕ)) (feeds since : (shard : ℕ) → List Event) (inserted : List Act) (synced : List Noted) (olds : List (Place (Known C))) (old : Place (Known C)) (kept : List (List KeptBlock)) (ps : List (Place (Known C))) : Type 0 where
    pub callers : List (Place (Known C))
    pub feeder : Place (Known C)
    pub are : ps ≡ callers ++ feeder ∷ []
    pub gave : AllGave cache acts noted 0 kept callers
    pub fed : IsFed cache openings feeds since inserted synced feeder
    pub cells : AllKeepCells cache.config olds callers
    pub fed_cells : KeepsCells cache.config old feeder
    pub first : ℕ → List Event
    pub lines : ℕ → List Line
    pub level : AllByRecursion (IsLevel cache.config lines) ps
    pub drops : (shard : ℕ) → events_in (lines shard) ≡ first shard ++ drops_from cache.config shard 0 kept
    -- where all had seen the same, it is that
    pub same : (before : ℕ → List Line) → IsLevel cache.config before old → AllByRecursion (IsLevel cache.config before) olds → (shard : ℕ) → first shard ≡ events_in (before shard)
    pub same_cells : (entries : ℕ → List Line) → SeesEntries cache.config entries old → AllByRecursion (SeesEntries cache.config entries) olds → AllByRecursion (SeesEntries cache.config entries) ps

-- ---- what the feeder does while all callers have joined it

-- n gives each of so many shards a new capacity
abbrev pub resizes_in : (shards n c : ℕ) → (shard : ℕ) → List Event
resizes_in shards n c shard = if nat_lt shard shards then (Resize n c ∷ []) else []

module _ {C : Type 0} where
  -- Of each cell these have all seen the same now, which goes on from what each of those had seen.
  abbrev pub HaveMet : Config → (olds news : List (Place (Known C))) → Type 0
  HaveMet g olds news = (i : ℕ) → IsCell g i → (all : List Line) × AllByRecursion (λ o. StartsWith all (front_of i o.own.seen)) olds × AllByRecursion (λ x. front_of i x.own.seen ≡ all) news

  -- While all others had joined it, the party made these events of each shard; then they parted. They stand behind all that anybody had done there,
  -- and all have seen them.
  pub record MadeJoined (cache : Cache) (more : (shard : ℕ) → List Event) (p : Place (Known C)) (olds : List (Place (Known C))) (q : Place (Known C)) (news : List (Place (Known C))) : Type 0 where
    pub lines : ℕ → List Line
    pub parted : HaveParted cache lines olds news
    pub level : IsLevel cache.config lines q
    pub number : q.number ≡ p.number
    pub about : q.own.about ≡ p.own.about
    pub alone : q.joined ≡ []
    pub stands : Stands cache q []
    pub met : HaveMet cache.config (p ∷ olds) (q ∷ news)
    pub front : ℕ → List Event
    pub seen : (shard : ℕ) → seen_of cache.config shard q ≡ front shard ++ more shard
    -- the front has of each just what it had done
    pub own : (shard : ℕ) → own_moments p.number (moments (opening_of cache.config) (front shard)) ≡ own_moments p.number (moments (opening_of cache.config) (seen_of cache.config shard p))
    pub others : (shard : ℕ)
        → AllByRecursion (λ o. own_moments o.number (moments (opening_of cache.config) (front shard)) ≡ own_moments o.number (moments (opening_of cache.config) (seen_of cache.config shard o))) olds
    pub since : (shard : ℕ) → StartsWith (front shard) (seen_of cache.config shard p)
    pub others_since : (shard : ℕ) → AllByRecursion (λ o. StartsWith (front shard) (seen_of cache.config shard o)) olds
    pub behind : MakesFrom cache.config (λ shard. length (front shard)) p q
    -- with other numbers than its own it made nothing more, and nothing of a cell
    pub made : SameMade cache.config p q
    pub entries : AreNoEntries cache.config p.own.mine → AreNoEntries cache.config q.own.mine
    -- the feeder has settled all that it picked, where it had before
    pub settled : p.number ≡ cache.config.callers → HasSettled p → HasSettled q
    -- where one other party has seen all that both made, it is what that one had seen
    pub one : (o : Place (Known C)) → olds ≡ o ∷ [] → AreEventsSeen cache.config p.number p.own.mine o.own.seen → (shard : ℕ) → front shard ≡ seen_of cache.config shard o
    -- where all had seen the same, it is that
    pub same : (before : ℕ → List Line) → IsLevel cache.config before p → AllByRecursion (IsLevel cache.config before) olds → (shard : ℕ) → front shard ≡ events_in (before shard)
    pub same_cells : (entries : ℕ → List Line) → SeesEntries cache.config entries p → AllByRecursion (SeesEntries cache.config entries) olds → AllByRecursion (SeesEntries cache.config entries) (q ∷ news)

  -- the feeder gave every shard this capacity
  abbrev pub Resized : Cache → (c : ℕ) → Place (Known C) → List (Place (Known C)) → Place (Known C) → List (Place (Known C)) → Type 0
  Resized cache c p olds q news = MadeJoined cache (resizes_in cache.config.shards cache.config.callers c) p olds q news
