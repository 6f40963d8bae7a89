-- A cell is given back.
use Rattle.std.proofs.Common.{◌≡◌, ◌≢◌, ℕ, zero, suc, ◌+◌, ◌-◌, ◌<◌, List, [], ◌∷◌, ◌++◌, length, map, set, Option, Some, None, refl, sym, ap, ◌∙◌, subst, ⊎_elim, arith, length-set, length-append}
use Rattle.std.proofs.lemmas.Option.{none-some}
use Rattle.std.specs.Option.{option_map_or}
use mathlib.Core.Option.{some, some-injective, some-ne-none}
use mathlib.Core.Logic.{dite}
use native.Mathlib.Decide.{ℕ_discrete}
use lib.ListN.{get_elem?}
use Rattle.atomic_table.proofs.Lists.{at_set}
use Rattle.blk_ptr.specs.declared.key.Key.{Key}
use Rattle.blk_ptr.specs.declared.ptr.Ptr.{Ptr}
use Rattle.arc_core.specs.declared.config.Config.{Config}
use Rattle.arc_core.specs.declared.event.Event.TheVariants.{Pass}
use Rattle.arc_core.specs.Keeps.{holds_on}
use Rattle.arc_core.specs.PlainShard.{PlainShard, count_of, entry_of}
use Rattle.hash_chain.specs.Chain.{header_at}
use Rattle.turn_table.specs.Board.{free, taken, Board, IsTaken, Knows}
use Rattle.turn_table.specs.Moments.{MayGive, Stands}
use Rattle.turn_table.specs.Places.{Place}
use Rattle.arc_table.specs.declared.about.About.{About}
use Rattle.arc_table.specs.declared.item.Item.{Item}
use Rattle.arc_table.specs.declared.item.Item.TheVariants as item
use Rattle.arc_table.specs.declared.view.Known.{Known}
use Rattle.arc_table.specs.declared.view.Ledger.{Ledger}
use Rattle.arc_table.specs.declared.view.Line.{Line}
use Rattle.arc_table.specs.declared.view.Line.TheVariants as line
use Rattle.arc_table.specs.declared.view.Mine.{Mine}
use Rattle.arc_table.specs.pact.Attached.{Attached, IsKind, IsShown}
use Rattle.arc_table.specs.pact.Counted.{Counted, IsRead, Rests, begun, readings_of, shard_at}
use Rattle.arc_table.specs.Fronts.{list_at, put, with_at}
use Rattle.arc_table.specs.Geometry.{IsCell, bucket_turn, cell_number, parties_of, shard_turn}
use Rattle.arc_table.specs.Giving.{IsGivenCell}
use Rattle.arc_table.specs.pact.Headed.{Headed, IsHead}
use Rattle.arc_table.specs.Items.{Meanings, claims_in, headers_in, holds_in, lines_in, shard_in}
use Rattle.arc_table.specs.pact.Logged.{IsOwn, IsSoundItem, Logged}
use Rattle.arc_table.specs.pact.Passed.{IsPassNoted, Passed}
use Rattle.arc_table.specs.pact.Rule.{Pact}
use Rattle.arc_table.specs.pact.Scene.{Scene}
use Rattle.arc_table.specs.Views.{after_cell, mines_from, note, recorded}
use Rattle.arc_table.specs.pact.AttachedLaws.{attached_moved, free_taken}
use Rattle.arc_table.proofs.AttachedLaws.{free_same}
use Rattle.arc_table.specs.TableLaws.{at_here, at_else, list_here, list_else, within}
use Rattle.arc_table.proofs.TableLaws.{there}
use Rattle.arc_table.proofs.Appending.{AreMines, Appends, NewNoted, append_logged, append_passed, appended, owned}
use Rattle.arc_table.proofs.Boards.{in_hand, stays_but}

-- ---- lines that are no passes

pub mines_are : (i place count : ℕ) → AreMines i place count (mines_from i place count)
mines_are i place count = record { long = long i place count; each = each i place count }
  where
    long : (i place count : ℕ) → length (mines_from i place count) ≡ count
    long i place zero = refl
    long i place (suc count) = ap suc (long i (suc place) count)

    each : (i place count j : ℕ) (a : Mine) → get_elem? (mines_from i place count) j ≡ some a → (a.turn ≡ i) × (a.place ≡ place + j)
    each i place zero j a e = absurd (some-ne-none a (sym e))
    each i place (suc count) zero a e = let x : Mine = record { turn = i; place = place; note = None } in let is : x ≡ a = some-injective x a e in
        let h : place ≡ place + zero = omega arith in (ap (λ (y : Mine). y.turn) (sym is), ap (λ (y : Mine). y.place) (sym is) ∙ h)
    each i place (suc count) (suc j) a e = let h = each i (suc place) count j a e in let p = h.1 in (h.0, omega arith)

pub mines_noteless : (i place count j : ℕ) (a : Mine) → get_elem? (mines_from i place count) j ≡ some a → a.note ≡ None
mines_noteless i place zero j a e = absurd (some-ne-none a (sym e))
mines_noteless i place (suc count) zero a e = let x : Mine = record { turn = i; place = place; note = None } in ap (λ (y : Mine). y.note) (sym (some-injective x a e))
mines_noteless i place (suc count) (suc j) a e = mines_noteless i (suc place) count j a e

map_join : {A B : Type 0} (f : A → B) (xs ys : List A) → map f (xs ++ ys) ≡ map f xs ++ map f ys
map_join f [] ys = refl
map_join f (x ∷ xs) ys = ap (λ l. f x ∷ l) (map_join f xs ys)

from_entries : (entries : List (List ℕ)) (j : ℕ) (l : Line) → get_elem? (map line.Entry entries) j ≡ some l → (e : List ℕ) × (get_elem? entries j ≡ some e) × (line.Entry e ≡ l)
from_entries [] j l e = absurd (some-ne-none l (sym e))
from_entries (x ∷ xs) zero l e = (x, refl, some-injective (line.Entry x) l e)
from_entries (x ∷ xs) (suc j) l e = from_entries xs j l e

same : (a b : ℕ) → ◌≡◌ {A = Option ℕ} (Some a) (Some b) → a ≡ b
same a b r = cc

module _ {C : Type 0} (m : Meanings C) where
  -- the places of the notes of a party's passes are in its list of notes
  pub note_within : (s : Scene C) → Logged m s → Passed m s → (n j y : ℕ) (x : Mine) → get_elem? (s.mine n) j ≡ some x → x.note ≡ Some y → y < length (s.notes n)
  note_within s l p n j y x e note_is =
      let h = l.stand n j x e in
      let at = there (lines_in m (s.now x.turn)) x.place h.0 in
      by_line at.0 (p.noted n j x at.0 e at.1)
    where
      by_line : (k : Line) → IsPassNoted s.about.config (s.notes n) (s.owner x.turn) n x k → y < length (s.notes n)
      by_line (line.Event (Pass by key other)) q = let d = q.1 in
          let near : d.index < length (s.notes n) = within (s.notes n) d.index (note (bucket_turn s.about.config key) other (Some (x.turn, d.length))) d.there in
          subst (λ (z : ℕ). z < length (s.notes n)) (same d.index y (sym d.noted ∙ note_is)) near
      by_line (line.Event _) q = absurd (none-some y (sym q ∙ note_is))
      by_line (line.Entry ns) q = absurd (none-some y (sym q ∙ note_is))

  module _ (b : Board (Item C) (Known C)) (pact : Pact m b) (p : Place (Known C)) (st : Stands b p) (i : ℕ) (is : IsTaken b i p.number) (cell : C) (give : IsGivenCell m p.number i cell p.own)
      (in_range : IsCell p.own.about.config i) where
    abbrev s : Scene C
    s = pact.scene

    abbrev n : ℕ
    n = p.number

    abbrev w : Known C
    w = p.own

    abbrev v : Item C
    v = item.Cell cell

    abbrev u : Known C
    u = after_cell m i v w

    at : Knows b n w
    at = st.shows.0

    shown : IsShown s n w
    shown = pact.attached.views n w at

    here : (s.now i ≡ item.Cell give.taken) × (list_at i w.listed ≡ s.kept i)
    here = in_hand m b s n i w (item.Cell give.taken) pact.attached is at give.recorded

    abbrev g : Config
    g = s.about.config

    config : w.about.config ≡ g
    config = ap (λ (x : About). x.config) shown.about

    cell_turn : IsCell g i
    cell_turn = subst (λ (x : Config). IsCell x i) config in_range

    party : n < parties_of g
    party = let a = within b.views n w at in let c = pact.attached.parties in omega arith

    -- the entries made since the cell was taken
    abbrev made : List Line
    made = map line.Entry give.more

    was : recorded m i w ≡ lines_in m (s.now i)
    was = ap (λ (o : Option (Item C)). option_map_or (lines_in m) o []) give.recorded ∙ ap (lines_in m) (sym here.0)

    lines : lines_in m v ≡ lines_in m (s.now i) ++ made
    lines = ap (map line.Entry) give.entries ∙ (map_join line.Entry (m.entries give.taken) give.more ∙ ap (λ (x : Item C). lines_in m x ++ made) (sym here.0))

    abbrev news : List Mine
    news = mines_from i (length (recorded m i w)) (length (lines_in m v) - length (recorded m i w))

    count : length (lines_in m v) - length (recorded m i w) ≡ length made
    count = let a : length (lines_in m v) ≡ length (lines_in m (s.now i)) + length made = ap length lines ∙ length-append (lines_in m (s.now i)) made in
        let c : length (recorded m i w) ≡ length (lines_in m (s.now i)) = ap length was in omega arith

    mines : AreMines i (length (lines_in m (s.now i))) (length made) news
    mines = subst (λ (x : ℕ × ℕ). AreMines i x.0 x.1 news) (λ k. (ap length was k, count k)) (mines_are i (length (recorded m i w)) (length (lines_in m v) - length (recorded m i w)))

    abbrev now : ℕ → Item C
    now = with_at s.now i v

    now_is : now i ≡ v
    now_is = at_here s.now i v

    now_else : (j : ℕ) → j ≢ i → now j ≡ s.now j
    now_else j far = at_else s.now i j v far

    sound_cell : IsSoundItem m s.about i v
    sound_cell = (give.sound, give.opening ∙ (subst (IsSoundItem m s.about i) here.0 (pact.logged.sound i)).1)

    sound : (j : ℕ) → IsSoundItem m s.about j (now j)
    sound j = dite (ℕ_discrete j i)
        (λ q. subst (λ (z : ℕ). IsSoundItem m s.about z (now z)) (sym q) (subst (IsSoundItem m s.about i) (sym now_is) sound_cell))
        (λ q. subst (IsSoundItem m s.about j) (sym (now_else j q)) (pact.logged.sound j))

    own : (j : ℕ) (l : Line) → get_elem? made j ≡ some l → IsOwn g n l
    own j l e = let h = from_entries give.more j l e in let q = give.own j h.0 h.1 in
        let is_line : line.Entry (n ∷ q.0) ≡ l = ap line.Entry (sym q.1) ∙ h.2 in
        subst (IsOwn g n) is_line record { number = (let c = party in omega arith); maker = λ below. refl; feeder = tt }

    appends : Appends m s now i n made news
    appends = record {
      party = party;
      here = ap (lines_in m) now_is ∙ lines;
      others = λ j far. ap (lines_in m) (now_else j far);
      sound = sound;
      mines = mines;
      own = own;
    }

    abbrev ledger : Ledger
    ledger = record (s.ledger n) { claims = (i, claims_in m v n) ∷ (s.ledger n).claims }

    abbrev t : Scene C
    t = record (appended m s now i n news) { kept = with_at s.kept i (m.holds cell); ledger = with_at s.ledger n ledger }

    -- the lines of the turn, as what n has seen
    abbrev seen_new : List (List Line)
    seen_new = put i (lines_in m (now i)) (s.seen n)

    shown_u : IsShown t n u
    shown_u = record {
      number = shown.number;
      about = shown.about;
      seen = (λ k. put i (lines_in m (sym now_is k)) (shown.seen k)) ∙ sym (at_here s.seen n seen_new);
      mine = ap (λ (x : List Mine). x ++ news) shown.mine ∙ sym (at_here s.mine n (s.mine n ++ news));
      ledger = (λ k. record (shown.ledger k) { claims = (i, claims_in m v (shown.number k)) ∷ (shown.ledger k).claims }) ∙ sym (at_here s.ledger n ledger);
      notes = shown.notes;
    }

    shown_else : (k : ℕ) (z : Known C) → k ≢ n → IsShown s k z → IsShown t k z
    shown_else k z far h = record {
      number = h.number;
      about = h.about;
      seen = h.seen ∙ sym (at_else s.seen n k seen_new far);
      mine = h.mine ∙ sym (at_else s.mine n k (s.mine n ++ news) far);
      ledger = h.ledger ∙ sym (at_else s.ledger n k ledger far);
      notes = h.notes;
    }

    kept_is : t.kept i ≡ m.holds cell
    kept_is = at_here s.kept i (m.holds cell)

    kept_else : (j : ℕ) → j ≢ i → t.kept j ≡ s.kept j
    kept_else j far = at_else s.kept i j (m.holds cell) far

    kind_v : IsKind g i v
    kind_v = cell_turn

    attached : Attached m record { turns = set b.turns i (free v); views = set b.views n u } t
    attached = attached_moved m b s t (set b.turns i (free v)) n w u pact.attached at refl shown_u shown_else (length-set b.turns i (free v))
        (λ j below. dite (ℕ_discrete j i)
        (λ q. subst (λ (z : ℕ). IsKind g z (now z)) (sym q) (subst (IsKind g i) (sym now_is) kind_v))
        (λ q. subst (IsKind g j) (sym (now_else j q)) (pact.attached.kinds j below)))
        (λ j x f. ⊎_elim
        (λ q. let x_is : v ≡ x = free_same v x q.1 in (ap now q.0 ∙ (now_is ∙ x_is), ap t.kept q.0 ∙ (kept_is ∙ ap (holds_in m) x_is)))
        (λ q. let h = pact.attached.free j x q.1 in (now_else j q.0 ∙ h.0, kept_else j q.0 ∙ h.1))
        (at_set b.turns i j (free v) (free x) f))
        (λ j k f. ⊎_elim
        (λ q. absurd (free_taken v k q.1))
        (λ q. stays_but m b s t n i w u pact.attached at refl refl j k q.0 (now_else j q.0) (kept_else j q.0) q.1)
        (at_set b.turns i j (free v) (taken k) f))

    -- ---- headers and counts

    bucket_far : (k : Key) → bucket_turn g k ≢ i
    bucket_far k q = let c = cell_turn in omega arith

    shard_far : (k : Key) → shard_turn g k ≢ i
    shard_far k q = let c = cell_turn in omega arith

    headers_here : headers_in (now i) ≡ []
    headers_here = ap headers_in now_is

    entries_here : (k : Key) → entry_of k (shard_in g (now i)) ≡ None
    entries_here k = ap (λ (x : Item C). entry_of k (shard_in g x)) now_is

    headed : Headed t
    headed = record {
      heads = λ k. subst (λ (x : Item C × Item C). IsHead (entry_of k (shard_in g x.0)) (header_at k (headers_in x.1))) (λ z. (sym (now_else (shard_turn g k) (shard_far k)) z, sym (now_else (bucket_turn g k) (bucket_far k)) z)) (pact.headed.heads k);
      own_headers = λ j k h e. dite (ℕ_discrete j i)
          (λ q. absurd (none-some h (sym (ap (λ (z : ℕ). header_at k (headers_in (now z))) q ∙ ap (header_at k) headers_here) ∙ e)))
          (λ q. pact.headed.own_headers j k h (ap (λ (x : Item C). header_at k (headers_in x)) (sym (now_else j q)) ∙ e));
      own_entries = λ j k h e. dite (ℕ_discrete j i)
          (λ q. absurd (none-some h (sym (ap (λ (z : ℕ). entry_of k (shard_in g (now z))) q ∙ entries_here k) ∙ e)))
          (λ q. pact.headed.own_entries j k h (ap (λ (x : Item C). entry_of k (shard_in g x)) (sym (now_else j q)) ∙ e));
    }

    shard_same : (k : Key) → shard_at t k ≡ shard_at s k
    shard_same k = ap (λ (x : Item C). shard_in g x) (now_else (shard_turn g k) (shard_far k))

    -- what the party n holds and reads is as before
    ledger_holds : (k : ℕ) → (t.ledger k).holds ≡ (s.ledger k).holds
    ledger_holds k = dite (ℕ_discrete k n) (λ q. ap (λ (z : ℕ). (t.ledger z).holds) q ∙ (ap (λ (l : Ledger). l.holds) (at_here s.ledger n ledger) ∙ ap (λ (z : ℕ). (s.ledger z).holds) (sym q))) (λ q. ap (λ (l : Ledger). l.holds) (at_else s.ledger n k ledger q))

    ledger_readings : (k : ℕ) → (t.ledger k).readings ≡ (s.ledger k).readings
    ledger_readings k = dite (ℕ_discrete k n) (λ q. ap (λ (z : ℕ). (t.ledger z).readings) q ∙ (ap (λ (l : Ledger). l.readings) (at_here s.ledger n ledger) ∙ ap (λ (z : ℕ). (s.ledger z).readings) (sym q))) (λ q. ap (λ (l : Ledger). l.readings) (at_else s.ledger n k ledger q))

    ledger_picked : (k : ℕ) → (t.ledger k).picked ≡ (s.ledger k).picked
    ledger_picked k = dite (ℕ_discrete k n) (λ q. ap (λ (z : ℕ). (t.ledger z).picked) q ∙ (ap (λ (l : Ledger). l.picked) (at_here s.ledger n ledger) ∙ ap (λ (z : ℕ). (s.ledger z).picked) (sym q))) (λ q. ap (λ (l : Ledger). l.picked) (at_else s.ledger n k ledger q))

    begun_same : (k : ℕ) (key : Key) → begun key (t.ledger k) ≡ begun key (s.ledger k)
    begun_same k key = λ z. holds_on key (ledger_holds k z) + readings_of key (ledger_readings k z)

    -- what the cell keeps is what n lists for it
    kept_count : (k : Key) → holds_on k (t.kept i) ≡ holds_on k (s.kept i)
    kept_count k = ap (holds_on k) kept_is ∙ (give.holds.count k ∙ ap (holds_on k) here.1)

    kept_among : (j : ℕ) (h : Ptr) → get_elem? (t.kept i) j ≡ some h → (q : ℕ) × (get_elem? (s.kept i) q ≡ some h)
    kept_among j h e = let a = give.holds.among j h (subst (λ (l : List Ptr). get_elem? l j ≡ some h) kept_is e) in (a.0, subst (λ (l : List Ptr). get_elem? l a.0 ≡ some h) here.1 a.1)

    claims_here : (k : ℕ) → k < parties_of g → claims_in m (now i) k ≡ list_at i (t.ledger k).claims
    claims_here k below = dite (ℕ_discrete k n)
        (λ q. ap (λ (x : Item C). claims_in m x k) now_is ∙ (ap (m.claims cell) q ∙ (sym (list_here i (m.claims cell n) (s.ledger n).claims) ∙ ap (λ (l : Ledger). list_at i l.claims) (sym (ap t.ledger q ∙ at_here s.ledger n ledger)))))
        (λ q. ap (λ (x : Item C). claims_in m x k) now_is ∙ (give.claims k q ∙ (ap (λ (x : Item C). claims_in m x k) (sym here.0) ∙ (pact.counted.claims i k cell_turn below ∙ ap (λ (l : Ledger). list_at i l.claims) (sym (at_else s.ledger n k ledger q))))))

    claims_else : (j k : ℕ) → j ≢ i → IsCell g j → k < parties_of g → claims_in m (now j) k ≡ list_at j (t.ledger k).claims
    claims_else j k far cells below = ap (λ (x : Item C). claims_in m x k) (now_else j far) ∙ (pact.counted.claims j k cells below ∙ dite (ℕ_discrete k n)
        (λ q. ap (λ (z : ℕ). list_at j (s.ledger z).claims) q ∙ (sym (list_else i j (m.claims cell n) (s.ledger n).claims far) ∙ ap (λ (l : Ledger). list_at j l.claims) (sym (ap t.ledger q ∙ at_here s.ledger n ledger))))
        (λ q. ap (λ (l : Ledger). list_at j l.claims) (sym (at_else s.ledger n k ledger q))))

    counted : Counted m t
    counted = record {
      parties = λ k key below. ap (count_of k key) (shard_same key) ∙ (pact.counted.parties k key below ∙ sym (begun_same k key));
      cells = λ j key cells. ap (count_of (cell_number g j) key) (shard_same key) ∙ (pact.counted.cells j key cells ∙ dite (ℕ_discrete j i)
          (λ q. ap (λ (z : ℕ). holds_on key (s.kept z)) q ∙ (sym (kept_count key) ∙ ap (λ (z : ℕ). holds_on key (t.kept z)) (sym q)))
          (λ q. ap (holds_on key) (sym (kept_else j q))));
      others = λ k key past. ap (count_of k key) (shard_same key) ∙ pact.counted.others k key past;
      holds = λ k j h below e. subst (λ (x : PlainShard). Rests x h) (sym (shard_same h.key)) (pact.counted.holds k j h below (subst (λ (l : List Ptr). get_elem? l j ≡ some h) (ledger_holds k) e));
      kept = λ j q h cells e. subst (λ (x : PlainShard). Rests x h) (sym (shard_same h.key)) (dite (ℕ_discrete j i)
          (λ r. let a = kept_among q h (subst (λ (z : ℕ). get_elem? (t.kept z) q ≡ some h) r e) in pact.counted.kept i a.0 h cell_turn a.1)
          (λ r. pact.counted.kept j q h cells (subst (λ (l : List Ptr). get_elem? l q ≡ some h) (kept_else j r) e)));
      readings = λ k j key below e. subst (λ (x : PlainShard). IsRead x key) (sym (shard_same key)) (pact.counted.readings k j key below (subst (λ (l : List Key). get_elem? l j ≡ some key) (ledger_readings k) e));
      picked = λ j shard. ap (λ (x : Item C). (shard_in g x).picked) (now_else j (λ q. let c = cell_turn in let d = shard.0 in omega arith)) ∙ (pact.counted.picked j shard ∙ ap (list_at j) (sym (ledger_picked g.callers)));
      claims = λ j k cells below. dite (ℕ_discrete j i)
          (λ q. subst (λ (z : ℕ). claims_in m (now z) k ≡ list_at z (t.ledger k).claims) (sym q) (claims_here k below))
          (λ q. claims_else j k q cells below);
      no_claims = λ j k cells past. dite (ℕ_discrete j i)
          (λ q. ap (λ (z : ℕ). claims_in m (now z) k) q ∙ (ap (λ (x : Item C). claims_in m x k) now_is ∙ (give.claims k (λ r. let c = party in omega arith) ∙ (ap (λ (x : Item C). claims_in m x k) (sym here.0) ∙ pact.counted.no_claims i k cell_turn past))))
          (λ q. ap (λ (x : Item C). claims_in m x k) (now_else j q) ∙ pact.counted.no_claims j k cells past);
    }

    no_passes : NewNoted m s now i n made news appends (length (s.notes n))
    no_passes = record {
      noted = λ q x l e f. noteless q x l e f;
      before = λ j y x e note. note_within s pact.logged pact.passed n j y x e note;
      since = λ q y x e note. absurd (none-some y (sym (none q x e) ∙ note));
      rise = λ q q' y y' x x' less e f note note'. absurd (none-some y (sym (none q x e) ∙ note));
    }
      where
        none : (q : ℕ) (x : Mine) → get_elem? news q ≡ some x → x.note ≡ None
        none q x e = mines_noteless i (length (recorded m i w)) (length (lines_in m v) - length (recorded m i w)) q x e

        noteless : (q : ℕ) (x : Mine) (l : Line) → get_elem? news q ≡ some x → get_elem? made q ≡ some l → IsPassNoted g (s.notes n) (owned s.owner i (length (lines_in m (s.now i))) n i) n x l
        noteless q x l e f = let h = from_entries give.more q l f in subst (IsPassNoted g (s.notes n) (owned s.owner i (length (lines_in m (s.now i))) n i) n x) h.2 (none q x e)

    pub cell_given : Pact m record { turns = set b.turns i (free v); views = set b.views n u }
    cell_given =
        let l = append_logged m s now i n made news appends pact.logged in
        let passed = append_passed m s now i n made news appends (length (s.notes n)) no_passes pact.logged pact.passed in record {
          scene = t;
          attached = attached;
          logged = record { sound = l.sound; seen = l.seen; places = λ j q below. let h = l.places j q below in record { party = h.party; index = h.index; line = h.line; at = h.at; turn = h.turn; place = h.place }; stand = l.stand; rises = l.rises; own = l.own };
          headed = headed;
          counted = counted;
          passed = record { noted = passed.noted; rises = passed.rises };
        }

  -- a party gives a cell back
  pub given_cell : (p : Place (Known C)) (i : ℕ) (cell : C) → IsGivenCell m p.number i cell p.own → IsCell p.own.about.config i → MayGive (Pact m) p i (item.Cell cell) (after_cell m i (item.Cell cell) p.own)
  given_cell p i cell give in_range b pact st is = cell_given b pact p st i is cell give in_range
