-- What a node that comes or goes does to the links.
use Rattle.std.proofs.Common.{◌≡◌, ◌≢◌, ℕ, suc, ◌+◌, ◌-◌, ◌<◌, ◌≤◌, ◌^◌, nat_eq, if◌then◌else◌, List, [], ◌∷◌, ◌++◌, length, Some, None, IsSome, is_some, option_map, inl, inr, refl, sym, ap, subst, ◌∙◌, arith}
use Rattle.std.proofs.lemmas.Bool.{eq-eqb, eqb-true, false≢true}
use Rattle.slab.specs.Slab.{Slab, Updates, get, slab_len}
use Rattle.arc_links.specs.declared.links.Links.TheInside.{Inside}
use Rattle.arc_links.specs.declared.node.Node.{Node}
use Rattle.arc_links.specs.Linked.{IsLinked, IsSegment, node, nodes_of}
use Rattle.arc_links.specs.Nodes.{facing_head, facing_last, neighbour_of, no_place}
use Rattle.arc_links.specs.PlainLinks.{AreApart, Placed, element_at, in_front, last_place, placed, without_place}
use Rattle.arc_links.proofs.Places.{AreApart-behind, AreApart-front, AreApart-without, apart_across, behind, cases_true, element_at-head, is_some_of, length-without, ne_test, none_is, some_is, split_at, still_there, without_split}
use Rattle.arc_links.proofs.Segments.{segment-end, segment-frame, segment-join, segment-place, segment-some, segment-split, walk-is}

module _ {T : Type 0} where
  -- the node at a place is changed, where the place is one, and no other
  pub record Turns (s t : Slab (Node T)) (at : ℕ) (change : Node T → Node T) : Type 0 where
    pub others : (q : ℕ) → q ≢ at → get t q ≡ get s q
    pub changed : at ≢ no_place → get t at ≡ option_map change (get s at)
    pub len : slab_len t ≡ slab_len s
    pub capacity : t.capacity ≡ s.capacity

  pub Turns-none : (s : Slab (Node T)) (at : ℕ) (change : Node T → Node T) → at ≡ no_place → Turns s s at change
  Turns-none s at change none = record { others = λ q other. refl; changed = λ some. absurd (some none); len = refl; capacity = refl }

  pub Turns-set : (s t : Slab (Node T)) (at : ℕ) (change : Node T → Node T)
      → ((q : ℕ) → get t q ≡ (if nat_eq q at then option_map change (get s q) else get s q)) → slab_len t ≡ slab_len s → t.capacity ≡ s.capacity → Turns s t at change
  Turns-set s t at change each len capacity = record {
    others = λ q other. rw (ne_test q at other) at (each q);
    changed = λ some. rw (eq-eqb at at refl) at (each at);
    len = len;
    capacity = capacity;
  }

  -- ---- a node that comes

  -- the node that stood at the head has the new one in front of it
  pub pushed : (s t u : Slab (Node T)) (head last p : ℕ) (x : T) (n : Placed T) (ns : List (Placed T)) → AreApart (n ∷ ns) → IsSegment s no_place head (n ∷ ns) last no_place
      → get s p ≡ None → p < no_place → Updates s t p (Some (node x no_place head)) → Turns t u head (facing_head p) → IsSegment u no_place p (placed p x ∷ n ∷ ns) last no_place
  pushed s t u head last p x n ns apart seg free place updates turns =
      let other : (q : ℕ) → IsSome (get s q) → q ≢ p = λ q some e. false≢true (sym (ap is_some free) ∙ ap (λ z. is_some (get s z)) (sym e) ∙ some) in
      let is : head ≡ n.place = seg.0 in
      let head_some : IsSome (get s n.place) = rw seg.3 refl in
      let new : get u p ≡ Some (node x no_place head) = turns.others p (λ e. other n.place head_some (sym is ∙ sym e)) ∙ updates.changed in
      let old : get t head ≡ Some (node n.element no_place seg.2) = ap (get t) is ∙ updates.others n.place (other n.place head_some) ∙ seg.3 in
      let place_of : head < no_place = rw is seg.1 in
      let turned : get u head ≡ Some (node n.element p seg.2) = turns.changed (omega (arith, place_of)) ∙ ap (option_map (facing_head p)) old in
      let rest : (q : ℕ) → IsSome (element_at q ns) → get u q ≡ get s q = λ q there.
      let some : IsSome (get s q) = segment-some s n.place seg.2 ns last no_place q seg.4 there in
      let not_head : q ≢ head = λ e. false≢true (sym (ap is_some apart.0) ∙ ap (λ z. is_some (element_at z ns)) (sym is ∙ sym e) ∙ there) in
      turns.others q not_head ∙ updates.others q (other q some) in
      (refl, place, head, new, (is, seg.1, seg.2, ap (get u) (sym is) ∙ turned, segment-frame s u n.place seg.2 ns last no_place rest seg.4))

  -- a node that comes to an empty list
  pub pushed_alone : (s t : Slab (Node T)) (head p : ℕ) (x : T) → head ≡ no_place → p < no_place → Updates s t p (Some (node x no_place head)) → IsSegment t no_place p (placed p x ∷ []) p no_place
  pushed_alone s t head p x none place updates = (refl, place, head, updates.changed, (refl, none))

  -- ---- a node that goes

  -- the nodes in front of one that goes, of which the last has another behind it
  fronted : (s t : Slab (Node T)) (b f f' : ℕ) (ns : List (Placed T)) (e k n : ℕ) → AreApart ns → IsSegment s b f ns e k
      → ((q : ℕ) → IsSome (element_at q ns) → q ≢ e → get t q ≡ get s q)
      → (IsSome (element_at e ns) → get t e ≡ option_map (facing_last n) (get s e))
      → (IsSome (element_at e ns) → f' ≡ f) → (ns ≡ [] → f' ≡ n) → IsSegment t b f' ns e n
  fronted s t b f f' [] e k n apart seg others changed some none = (seg.0, none refl)
  fronted s t b f f' (m ∷ []) e k n apart seg others changed some none =
      let is : m.place ≡ e = seg.4.0 in
      let there : IsSome (element_at e (m ∷ [])) = (segment-end s b f m [] e k seg).0 in
      let read : get s e ≡ Some (node m.element b seg.2) = ap (get s) (sym is) ∙ seg.3 in
      (some there ∙ seg.0, seg.1, n, ap (get t) is ∙ changed there ∙ ap (option_map (facing_last n)) read, (is, refl))
  fronted s t b f f' (m ∷ o ∷ ms) e k n apart seg others changed some none =
      let end = segment-end s m.place seg.2 o ms e k seg.4 in
      let there : IsSome (element_at e (m ∷ o ∷ ms)) = still_there e m (o ∷ ms) end.0 in
      let differ : m.place ≢ e = λ same. false≢true (sym (ap is_some apart.0) ∙ ap (λ z. is_some (element_at z (o ∷ ms))) same ∙ end.0) in (
        some there ∙ seg.0,
        seg.1,
        seg.2,
        others m.place (rw (element_at-head m (o ∷ ms)) refl) differ ∙ seg.3,
        fronted s t m.place seg.2 seg.2 (o ∷ ms) e k n apart.1 seg.4 (λ q at. others q (still_there q m (o ∷ ms) at)) (λ at. changed there) (λ at. refl) (λ nil. absurd (cc nil)),
      )

  -- the nodes behind one that goes, of which the first has another in front of it
  followed : (s t : Slab (Node T)) (b b' f : ℕ) (ns : List (Placed T)) (e e' : ℕ) → AreApart ns → IsSegment s b f ns e no_place
      → ((q : ℕ) → IsSome (element_at q ns) → q ≢ f → get t q ≡ get s q)
      → (IsSome (element_at f ns) → get t f ≡ option_map (facing_head b') (get s f))
      → (IsSome (element_at f ns) → e' ≡ e) → (ns ≡ [] → e' ≡ b') → IsSegment t b' f ns e' no_place
  followed s t b b' f [] e e' apart seg others changed some none = (sym (none refl), seg.1)
  followed s t b b' f (m ∷ ms) e e' apart seg others changed some none =
      let is : f ≡ m.place = seg.0 in
      let there : IsSome (element_at f (m ∷ ms)) = ap (λ z. is_some (element_at z (m ∷ ms))) is ∙ ap is_some (element_at-head m ms) in
      let read : get s f ≡ Some (node m.element b seg.2) = ap (get s) is ∙ seg.3 in
      let rest : (q : ℕ) → IsSome (element_at q ms) → get t q ≡ get s q = λ q at.
      others q (still_there q m ms at) (λ same. false≢true (sym (ap is_some apart.0) ∙ ap (λ z. is_some (element_at z ms)) (sym is ∙ sym same) ∙ at)) in (
        is,
        seg.1,
        seg.2,
        ap (get t) (sym is) ∙ changed there ∙ ap (option_map (facing_head b')) read,
        subst (λ z. IsSegment t m.place seg.2 ms z no_place) (sym (some there)) (segment-frame s t m.place seg.2 ms e no_place rest seg.4),
      )

  nil_end : (s : Slab (Node T)) (b f : ℕ) (ns : List (Placed T)) (e k : ℕ) → IsSegment s b f ns e k → ns ≡ [] → e ≡ b
  nil_end s b f [] e k seg nil = sym seg.0
  nil_end s b f (n ∷ ns) e k seg nil = absurd (cc nil)

  nil_next : (s : Slab (Node T)) (b f : ℕ) (ns : List (Placed T)) (e : ℕ) → IsSegment s b f ns e no_place → ns ≡ [] → f ≡ no_place
  nil_next s b f [] e seg nil = seg.1
  nil_next s b f (n ∷ ns) e seg nil = absurd (cc nil)

  after_case : (s : Slab (Node T)) (q at after : ℕ) (back : List (Placed T)) (last : ℕ) → q < no_place → IsSegment s at after back last no_place
      → ((p : ℕ) → IsSome (element_at p back) → q ≢ p) → q ≢ after
  after_case s q at after [] last place rear across same = omega (arith, place, same, rear.1)
  after_case s q at after (m ∷ ms) last place rear across same = across m.place (rw (element_at-head m ms) refl) (same ∙ rear.0)

  before_case : (s : Slab (Node T)) (p before head l : ℕ) (front : List (Placed T)) → IsSegment s no_place head front before l → p < no_place
      → ((q : ℕ) → IsSome (element_at q front) → q ≢ p) → p ≢ before
  before_case s p before head l [] fore place across same = omega (arith, place, same, fore.0)
  before_case s p before head l (m ∷ ms) fore place across same = across before (segment-end s no_place head m ms before l fore).0 (sym same)

  -- what is left when the node at a place goes
  pub removed : (s r t u : Slab (Node T)) (head last head' last' at : ℕ) (x : T) (before after : ℕ) (front back : List (Placed T))
      → AreApart (front ++ (placed at x ∷ back)) → IsSegment s no_place head (front ++ (placed at x ∷ back)) last no_place
      → get s at ≡ Some (node x before after) → Updates s r at None → Turns r t before (facing_last after) → Turns t u after (facing_head before)
      → (before ≡ no_place → head' ≡ after) → (before ≢ no_place → head' ≡ head) → (after ≡ no_place → last' ≡ before) → (after ≢ no_place → last' ≡ last)
      → IsSegment u no_place head' (front ++ back) last' no_place
  removed s r t u head last head' last' at x before after front back apart seg read gone first second head_none head_some last_none last_some =
      let here = placed at x in
      let cut = segment-split s no_place head front (here ∷ back) last no_place seg in
      let m = cut.0 in
      let fore : IsSegment s no_place head front m cut.1 = cut.2 in
      let rear = cut.3 in
      let both : Some (node x m rear.2) ≡ Some (node x before after) = sym rear.3 ∙ read in
      let m_is : m ≡ before = ap (λ (z : Node T). z.toward_head) (some_is both) in
      let after_is : rear.2 ≡ after = ap (λ (z : Node T). z.toward_last) (some_is both) in
      let fore' : IsSegment s no_place head front before cut.1 = subst (λ z. IsSegment s no_place head front z cut.1) m_is fore in
      let rear' : IsSegment s at after back last no_place = subst (λ z. IsSegment s at z back last no_place) after_is rear.4 in
      let apart_front : AreApart front = AreApart-front front (here ∷ back) apart in
      let apart_rest : AreApart (here ∷ back) = AreApart-behind front (here ∷ back) apart in
      let at_there : IsSome (element_at at (here ∷ back)) = rw (element_at-head here back) refl in
      -- no place in front is one behind
      let across : (q p : ℕ) → IsSome (element_at q front) → IsSome (element_at p (here ∷ back)) → q ≢ p = λ q p in_front there same.
      false≢true (sym (ap is_some (apart_across q front (here ∷ back) apart in_front)) ∙ ap (λ z. is_some (element_at z (here ∷ back))) same ∙ there) in
      let front_after : (q : ℕ) → IsSome (element_at q front) → q ≢ after = λ q in_front.
      after_case s q at after back last (segment-place s no_place head front before cut.1 q fore' in_front) rear' (λ p there. across q p in_front (still_there p here back there)) in
      let behind_before : (p : ℕ) → IsSome (element_at p (here ∷ back)) → p < no_place → p ≢ before = λ p there place. before_case s p before head cut.1 front fore' place (λ q in_front. across q p in_front there) in
      let front_part : IsSegment u no_place head' front before after =
      fronted s u no_place head head' front before cut.1 after apart_front fore'
      (λ q in_front other. second.others q (front_after q in_front) ∙ first.others q other ∙ gone.others q (across q at in_front at_there))
      (λ in_front.
      let place = segment-place s no_place head front before cut.1 before fore' in_front in
      second.others before (front_after before in_front) ∙ first.changed (omega (arith, place)) ∙ ap (option_map (facing_last after)) (gone.others before (across before at in_front at_there)))
      (λ in_front. let place = segment-place s no_place head front before cut.1 before fore' in_front in head_some (omega (arith, place)))
      (λ nil. head_none (nil_end s no_place head front before cut.1 fore' nil)) in
      let not_here : (q : ℕ) → IsSome (element_at q back) → q ≢ at = λ q there same. false≢true (sym (ap is_some apart_rest.0) ∙ ap (λ z. is_some (element_at z back)) (sym same) ∙ there) in
      let not_before : (q : ℕ) → IsSome (element_at q back) → q ≢ before = λ q there.
      behind_before q (still_there q here back there) (segment-place s at after back last no_place q rear' there) in
      let back_part : IsSegment u before after back last' no_place =
      followed s u at before after back last last' apart_rest.1 rear'
      (λ q there other. second.others q other ∙ first.others q (not_before q there) ∙ gone.others q (not_here q there))
      (λ there.
      let place = segment-place s at after back last no_place after rear' there in
      second.changed (omega (arith, place)) ∙ ap (option_map (facing_head before)) (first.others after (not_before after there) ∙ gone.others after (not_here after there)))
      (λ there. let place = segment-place s at after back last no_place after rear' there in last_some (omega (arith, place)))
      (λ nil. last_none (nil_next s at after back last rear' nil)) in
      segment-join u no_place head' front back before after last' no_place front_part back_part

  -- ---- the whole list

  -- a list of linked nodes is what its slab holds
  pub linked-is : (l : Inside T) (ns : List (Placed T)) → IsSegment l.nodes no_place l.head ns l.last no_place → length ns ≤ slab_len l.nodes → nodes_of l ≡ ns
  linked-is l ns seg fits = walk-is l.nodes no_place l.head ns l.last (slab_len l.nodes) seg fits

  pub IsLinked-of : (l : Inside T) (ns : List (Placed T)) → IsSegment l.nodes no_place l.head ns l.last no_place → AreApart ns → length ns ≤ slab_len l.nodes
      → slab_len l.nodes + l.spare ≤ l.nodes.capacity → slab_len l.nodes + l.spare < 2 ^ 64 → IsLinked l
  IsLinked-of l ns seg apart fits room end =
      let is : ns ≡ nodes_of l = sym (linked-is l ns seg fits) in
      record {
        linked = subst (λ z. IsSegment l.nodes no_place l.head z l.last no_place) is seg;
        apart = subst AreApart is apart;
        count = subst (λ z. length z ≤ slab_len l.nodes) is fits;
        room = room;
        fits = end;
      }

  -- how much a slab could hold says nothing of what it holds
  pub IsLinked-room : (l : Inside T) (capacity spare : ℕ) → IsLinked l → slab_len l.nodes + spare ≤ capacity → slab_len l.nodes + spare < 2 ^ 64
      → IsLinked record { nodes = record l.nodes { capacity = capacity }; head = l.head; last = l.last; spare = spare }
  IsLinked-room l capacity spare kept room end = record { linked = segment-frame l.nodes (record l.nodes { capacity = capacity }) no_place l.head (nodes_of l) l.last no_place (λ q there. refl) kept.linked; apart = kept.apart; count = kept.count; room = room; fits = end }

  -- the node that a place names is the slab's
  pub node_at : (l : Inside T) (at : ℕ) → IsLinked l → IsSome (element_at at (nodes_of l)) → IsSome (get l.nodes at)
  node_at l at kept there = segment-some l.nodes no_place l.head (nodes_of l) l.last no_place at kept.linked there

  -- and has its element, and the end of those in front of it as its neighbour toward the head
  pub node-is : (s : Slab (Node T)) (b f : ℕ) (ns : List (Placed T)) (e k at : ℕ) (x : T) → IsSegment s b f ns e k → element_at at ns ≡ Some x
      → (before : ℕ) × (after : ℕ) × (l : ℕ) × (get s at ≡ Some (node x before after)) × IsSegment s b f (in_front at ns) before l
  node-is s b f [] e k at x seg there = absurd (cc)
  node-is s b f (n ∷ ns) e k at x seg there = elim (cases_true (nat_eq n.place at)) [
    | inl same ↦
        let value : n.element ≡ x = some_is (rw same at there) in
        let is : n.place ≡ at = eqb-true _ _ same in
        (b, seg.2, f, ap (get s) (sym is) ∙ seg.3 ∙ ap (λ y. Some (node y b seg.2)) value, rw same (refl, refl))
    | inr differs ↦
        let rest = node-is s n.place seg.2 ns e k at x seg.4 (rw differs at there) in
        (rest.0, rest.1, rest.2, rest.3, rw differs (seg.0, seg.1, seg.2, seg.3, rest.4))
  ]

  pub element_read : (s : Slab (Node T)) (at : ℕ) (x : T) (b a : ℕ) (m : Node T) → get s at ≡ Some (node x b a) → get s at ≡ Some m → x ≡ m.element
  element_read s at x b a m is read = ap (λ (z : Node T). z.element) (some_is (sym is ∙ read))

  pub head_read : (s : Slab (Node T)) (at : ℕ) (x : T) (b a : ℕ) (m : Node T) → get s at ≡ Some (node x b a) → get s at ≡ Some m → b ≡ m.toward_head
  head_read s at x b a m is read = ap (λ (z : Node T). z.toward_head) (some_is (sym is ∙ read))

  -- a link that names the last of some nodes, or nothing, is read as that place
  pub neighbour-is : (s : Slab (Node T)) (f : ℕ) (ns : List (Placed T)) (e k : ℕ) → IsSegment s no_place f ns e k → last_place ns ≡ neighbour_of e
  neighbour-is s f [] e k seg = rw (← seg.0) refl
  neighbour-is s f (n ∷ ns) e k seg =
      let end = segment-end s no_place f n ns e k seg in
      end.2 ∙ rw (ne_test e no_place (omega (arith, end.1))) refl

  -- ---- a list whose slab was changed

  -- these are the nodes of the list now, and it is linked
  pub record Becomes (l : Inside T) (ns : List (Placed T)) : Type 0 where
    pub nodes : nodes_of l ≡ ns
    pub kept : IsLinked l

  becomes : (l : Inside T) (ns : List (Placed T)) → IsSegment l.nodes no_place l.head ns l.last no_place → AreApart ns → length ns ≤ slab_len l.nodes
      → slab_len l.nodes + l.spare ≤ l.nodes.capacity → slab_len l.nodes + l.spare < 2 ^ 64 → Becomes l ns
  becomes l ns seg apart fits room end = record { nodes = linked-is l ns seg fits; kept = IsLinked-of l ns seg apart fits room end }

  -- a free place of the slab is none of the list's
  pub free_place : (l : Inside T) (p : ℕ) → IsLinked l → get l.nodes p ≡ None → element_at p (nodes_of l) ≡ None
  free_place l p kept free = elim (cases_true (is_some (element_at p (nodes_of l)))) [
    | inl there ↦ absurd (false≢true (sym (ap is_some free) ∙ node_at l p kept there))
    | inr off ↦ none_is _ off
  ]

  pub push_first : (l : Inside T) (t : Slab (Node T)) (p : ℕ) (x : T) → IsLinked l → 0 < l.spare → get l.nodes p ≡ None → p < no_place
      → Updates l.nodes t p (Some (node x no_place l.head)) → slab_len t ≡ slab_len l.nodes + 1 → t.capacity ≡ l.nodes.capacity → l.head ≡ no_place
      → Becomes record { nodes = t; head = p; last = p; spare = l.spare - 1 } (placed p x ∷ nodes_of l)
  push_first l t p x kept some free place updates len capacity none =
      becomes _ _ (first (nodes_of l) kept.linked) (free_place l p kept free, kept.apart) (omega (arith, kept.count)) (omega (arith, kept.room)) (omega (arith, kept.fits))
    where
      first : (ns : List (Placed T)) → IsSegment l.nodes no_place l.head ns l.last no_place → IsSegment t no_place p (placed p x ∷ ns) p no_place
      first [] seg = pushed_alone l.nodes t l.head p x none place updates
      first (n ∷ ns) seg = absurd (omega (arith, seg.0, seg.1, none))

  pub push_more : (l : Inside T) (t u : Slab (Node T)) (p : ℕ) (x : T) → IsLinked l → 0 < l.spare → get l.nodes p ≡ None → p < no_place
      → Updates l.nodes t p (Some (node x no_place l.head)) → slab_len t ≡ slab_len l.nodes + 1 → t.capacity ≡ l.nodes.capacity → l.head ≢ no_place
      → Turns t u l.head (facing_head p) → Becomes record { nodes = u; head = p; last = l.last; spare = l.spare - 1 } (placed p x ∷ nodes_of l)
  push_more l t u p x kept some free place updates len capacity head turns =
      becomes _ _ (more (nodes_of l) kept.apart kept.linked) (free_place l p kept free, kept.apart)
      (omega (arith, kept.count, turns.len)) (omega (arith, kept.room, turns.len, turns.capacity)) (omega (arith, kept.fits, turns.len))
    where
      more : (ns : List (Placed T)) → AreApart ns → IsSegment l.nodes no_place l.head ns l.last no_place → IsSegment u no_place p (placed p x ∷ ns) l.last no_place
      more [] apart seg = absurd (head seg.1)
      more (n ∷ ns) apart seg = pushed l.nodes t u l.head l.last p x n ns apart seg free place updates turns

  -- the neighbours of a node of the list
  pub record Around (s : Slab (Node T)) (at before after : ℕ) : Type 0 where
    pub before_there : before ≢ no_place → IsSome (get s before)
    pub before_apart : before ≢ no_place → before ≢ at
    pub after_there : after ≢ no_place → IsSome (get s after)
    pub after_apart : after ≢ no_place → after ≢ at
    pub both_apart : after ≢ no_place → after ≢ before

  pub around : (l : Inside T) (at : ℕ) (n : Node T) → IsLinked l → IsSome (element_at at (nodes_of l)) → get l.nodes at ≡ Some n → Around l.nodes at n.toward_head n.toward_last
  around l at n kept there read =
      let ns = nodes_of l in
      let x = is_some_of (element_at at ns) there in
      let front = in_front at ns in
      let back = behind at ns in
      let is = split_at at ns x.0 x.1 in
      let apart : AreApart (front ++ (placed at x.0 ∷ back)) = subst AreApart is kept.apart in
      let seg : IsSegment l.nodes no_place l.head (front ++ (placed at x.0 ∷ back)) l.last no_place = subst (λ z. IsSegment l.nodes no_place l.head z l.last no_place) is kept.linked in
      let cut = segment-split l.nodes no_place l.head front (placed at x.0 ∷ back) l.last no_place seg in
      let rear = cut.3 in
      let both : Some (node x.0 cut.0 rear.2) ≡ Some n = sym rear.3 ∙ read in
      let before_is : cut.0 ≡ n.toward_head = ap (λ (z : Node T). z.toward_head) (some_is both) in
      let after_is : rear.2 ≡ n.toward_last = ap (λ (z : Node T). z.toward_last) (some_is both) in
      let across : (q p : ℕ) → IsSome (element_at q front) → IsSome (element_at p (placed at x.0 ∷ back)) → q ≢ p = λ q p in_front there same.
      false≢true (sym (ap is_some (apart_across q front (placed at x.0 ∷ back) apart in_front)) ∙ ap (λ z. is_some (element_at z (placed at x.0 ∷ back))) same ∙ there) in
      let at_there : IsSome (element_at at (placed at x.0 ∷ back)) = ap is_some (element_at-head (placed at x.0) back) in
      let in_front_of : cut.0 ≢ no_place → IsSome (element_at cut.0 front) = end_there front cut.0 cut.1 cut.2 in
      let behind_of : rear.2 ≢ no_place → IsSome (element_at rear.2 back) = first_there back at rear.2 rear.4 in
      let apart_rest : AreApart (placed at x.0 ∷ back) = AreApart-behind front (placed at x.0 ∷ back) apart in
      subst (λ z. Around l.nodes at z n.toward_last) before_is (subst (λ z. Around l.nodes at cut.0 z) after_is (record {
        before_there = λ some. segment-some l.nodes no_place l.head front cut.0 cut.1 cut.0 cut.2 (in_front_of some);
        before_apart = λ some. across cut.0 at (in_front_of some) at_there;
        after_there = λ some. segment-some l.nodes at rear.2 back l.last no_place rear.2 rear.4 (behind_of some);
        after_apart = λ some same. false≢true (sym (ap is_some apart_rest.0) ∙ ap (λ z. is_some (element_at z back)) (sym same) ∙ behind_of some);
        both_apart = λ some same. across cut.0 rear.2 (in_front_of (λ none. some (same ∙ none))) (still_there rear.2 (placed at x.0) back (behind_of some)) (sym same);
      }))
    where
      end_there : (front : List (Placed T)) (e k : ℕ) → IsSegment l.nodes no_place l.head front e k → e ≢ no_place → IsSome (element_at e front)
      end_there [] e k seg some = absurd (some (sym seg.0))
      end_there (m ∷ ms) e k seg some = (segment-end l.nodes no_place l.head m ms e k seg).0

      first_there : (back : List (Placed T)) (b f : ℕ) → IsSegment l.nodes b f back l.last no_place → f ≢ no_place → IsSome (element_at f back)
      first_there [] b f seg some = absurd (some seg.1)
      first_there (m ∷ ms) b f seg some = ap (λ z. is_some (element_at z (m ∷ ms))) seg.0 ∙ ap is_some (element_at-head m ms)

  -- what is left of a list when a node goes
  pub taken : (l : Inside T) (r t u : Slab (Node T)) (head last at : ℕ) (n : Node T) → IsLinked l → IsSome (element_at at (nodes_of l)) → get l.nodes at ≡ Some n
      → Updates l.nodes r at None → slab_len r + 1 ≡ slab_len l.nodes → r.capacity ≡ l.nodes.capacity
      → Turns r t n.toward_head (facing_last n.toward_last) → Turns t u n.toward_last (facing_head n.toward_head)
      → (n.toward_head ≡ no_place → head ≡ n.toward_last) → (n.toward_head ≢ no_place → head ≡ l.head)
      → (n.toward_last ≡ no_place → last ≡ n.toward_head) → (n.toward_last ≢ no_place → last ≡ l.last)
      → Becomes record { nodes = u; head = head; last = last; spare = l.spare + 1 } (without_place at (nodes_of l))
  taken l r t u head last at n kept there read gone len capacity first second head_none head_some last_none last_some =
      let ns = nodes_of l in
      let x = is_some_of (element_at at ns) there in
      let is = split_at at ns x.0 x.1 in
      let left = without_split at ns x.0 kept.apart x.1 in
      let value = node-is l.nodes no_place l.head ns l.last no_place at x.0 kept.linked x.1 in
      let element : x.0 ≡ n.element = element_read l.nodes at x.0 value.0 value.1 n value.3 read in
      let read' : get l.nodes at ≡ Some (node x.0 n.toward_head n.toward_last) = read ∙ ap (λ y. Some (node y n.toward_head n.toward_last)) (sym element) in
      let apart : AreApart (in_front at ns ++ (placed at x.0 ∷ behind at ns)) = subst AreApart is kept.apart in
      let seg = removed l.nodes r t u l.head l.last head last at x.0 n.toward_head n.toward_last (in_front at ns) (behind at ns) apart
      (subst (λ z. IsSegment l.nodes no_place l.head z l.last no_place) is kept.linked) read' gone first second head_none head_some last_none last_some in
      let count : suc (length (without_place at ns)) ≡ length ns = length-without at ns x.0 kept.apart x.1 in
      becomes _ _ (subst (λ z. IsSegment u no_place head z last no_place) (sym left) seg) (AreApart-without at ns kept.apart)
      (omega (arith, kept.count, count, first.len, second.len))
      (omega (arith, kept.room, first.len, second.len, first.capacity, second.capacity))
      (omega (arith, kept.fits, first.len, second.len))

  -- the list after its head, or the node in front, was told of the node behind one that goes
  pub record ToldFront (l : Inside T) (r : Slab (Node T)) (m : Inside T) (before after : ℕ) : Type 0 where
    pub turns : Turns r m.nodes before (facing_last after)
    pub none : before ≡ no_place → m.head ≡ after
    pub some : before ≢ no_place → m.head ≡ l.head
    pub last : m.last ≡ l.last
    pub spare : m.spare ≡ l.spare

  pub told_head : (l : Inside T) (r : Slab (Node T)) (before after : ℕ) → before ≡ no_place
      → ToldFront l r record { nodes = r; head = after; last = l.last; spare = l.spare } before after
  told_head l r before after none =
      record { turns = Turns-none r before (facing_last after) none; none = λ e. refl; some = λ some. absurd (some none); last = refl; spare = refl }

  pub told_before : (l : Inside T) (r t : Slab (Node T)) (before after : ℕ) → before ≢ no_place → Turns r t before (facing_last after)
      → ToldFront l r record { nodes = t; head = l.head; last = l.last; spare = l.spare } before after
  told_before l r t before after some turns = record { turns = turns; none = λ none. absurd (some none); some = λ e. refl; last = refl; spare = refl }

  -- and after the last, or the node behind, was told of the node in front
  pub record ToldBack (l : Inside T) (m : Inside T) (before after : ℕ) : Type 0 where
    pub turns : Turns l.nodes m.nodes after (facing_head before)
    pub none : after ≡ no_place → m.last ≡ before
    pub some : after ≢ no_place → m.last ≡ l.last
    pub head : m.head ≡ l.head
    pub spare : m.spare ≡ l.spare

  pub told_last : (l : Inside T) (before after : ℕ) → after ≡ no_place → ToldBack l record { nodes = l.nodes; head = l.head; last = before; spare = l.spare } before after
  told_last l before after none =
      record { turns = Turns-none l.nodes after (facing_head before) none; none = λ e. refl; some = λ some. absurd (some none); head = refl; spare = refl }

  pub told_after : (l : Inside T) (t : Slab (Node T)) (before after : ℕ) → after ≢ no_place → Turns l.nodes t after (facing_head before)
      → ToldBack l record { nodes = t; head = l.head; last = l.last; spare = l.spare } before after
  told_after l t before after some turns = record { turns = turns; none = λ none. absurd (some none); some = λ e. refl; head = refl; spare = refl }

  pub told : (l : Inside T) (r : Slab (Node T)) (m k : Inside T) (at : ℕ) (n : Node T) → IsLinked l → IsSome (element_at at (nodes_of l)) → get l.nodes at ≡ Some n
      → Updates l.nodes r at None → slab_len r + 1 ≡ slab_len l.nodes → r.capacity ≡ l.nodes.capacity
      → ToldFront l r m n.toward_head n.toward_last → ToldBack m k n.toward_head n.toward_last
      → Becomes record { nodes = k.nodes; head = k.head; last = k.last; spare = k.spare + 1 } (without_place at (nodes_of l))
  told l r m k at n kept there read gone len capacity front back =
      subst (λ z. Becomes record { nodes = k.nodes; head = k.head; last = k.last; spare = z + 1 } (without_place at (nodes_of l))) (sym (back.spare ∙ front.spare))
      (taken l r m.nodes k.nodes k.head k.last at n kept there read gone len capacity front.turns back.turns
      (λ none. back.head ∙ front.none none) (λ some. back.head ∙ front.some some) back.none (λ some. back.some some ∙ front.last))
