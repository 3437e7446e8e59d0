-- Records and the lists of their edges, as a record changes.
use Rattle.std.proofs.Common.{Bool, true, false, [], ◌∷◌, zero, suc, true≢false, ◌≡◌, ◌≢◌, ◌⊎◌, ◌∙◌, ◌+◌, ◌<◌, ◌≤◌}
use Rattle.std.proofs.Common.{ℕ, List, Option, None, Some, ap, arith, cond, get_or, is_some, length, refl, subst, sym, inl, inr}
use Rattle.std.specs.Prelude.{IfSome, IsSome, slice_get}
use Rattle.std.specs.List.{count_by}
use Rattle.std.specs.Option.{option_map}
use Rattle.std.proofs.lemmas.Bool.Decides.{eqb_tells}
use Rattle.std.proofs.lemmas.List.Sums.{sum_by-cons, sum_by-set}
use Rattle.std.proofs.Math.ListN.{get_or-map}
use Rattle.slab.specs.Slab as slots
use Rattle.slab.proofs.SlabLemmas.{ContainsKey-within, Updates-with_value}
use Rattle.cube_defs.specs.Tree.{Edge}
use Rattle.qc_arena.specs.EdgeLists.{list_in}
use Rattle.qc_arena.specs.Edges.{put_edge, with_edge}
use Rattle.qc_arena.specs.Inside.{join}
use Rattle.qc_arena.specs.KeptSlot.{Kept, with_edges}
use Rattle.qc_arena.specs.Map.{Known}
use Rattle.qc_arena.specs.RecordReaders.{record_or}
use Rattle.qc_arena.specs.Records.{AreListed, edges_from, has_list, node_of, nodes_of}

-- the node at a number is that of its record
pub get-nodes : (s : slots.Slab Kept) (lists : slots.Slab (List (Edge ℕ ℕ))) (q : ℕ)
    → slots.get (nodes_of s lists) q ≡ option_map (node_of lists) (slots.get s q)
get-nodes s lists q = get_or-map (λ (o : Option Kept). option_map (node_of lists) o) s.slots q None

-- 1 for a place, else 0
abbrev pub bit : Option ℕ → ℕ
bit place = cond (is_some place) 1 0

-- one record changes, and no list but its own
pub record Changed (s s' : slots.Slab Kept) (lists lists' : slots.Slab (List (Edge ℕ ℕ))) (q : ℕ)
    (h h' : Kept) : Type 0 where
  pub was : slots.get s q ≡ Some h
  pub now : slots.get s' q ≡ Some h'
  pub others : (r : ℕ) → r ≢ q → slots.get s' r ≡ slots.get s r
  pub len : slots.slab_len s' ≡ slots.slab_len s
  pub counted : count_by has_list s'.slots + bit h.place ≡ count_by has_list s.slots + bit h'.place
  pub kept : (p : ℕ) → h.place ≢ Some p → h'.place ≢ Some p → slots.get lists' p ≡ slots.get lists p
  pub has : (p : ℕ) → h'.place ≡ Some p → slots.ContainsKey lists' p
  pub new : (p : ℕ) → h'.place ≡ Some p → (h.place ≡ Some p) ⊎ (slots.get lists p ≡ None)
  pub lens : slots.slab_len lists' + bit h.place ≤ slots.slab_len lists + bit h'.place
  pub capacity : lists'.capacity ≡ lists.capacity

module _ (s s' : slots.Slab Kept) (lists lists' : slots.Slab (List (Edge ℕ ℕ))) (q : ℕ) (h h' : Kept)
    (c : Changed s s' lists lists' q h h') (are : AreListed s lists) where
  -- another record's place isn't that of this one, before or after
  apart_before : (r p : ℕ) (g : Kept) → r ≢ q → slots.get s r ≡ Some g → g.place ≡ Some p → h.place ≢ Some p
  apart_before r p g n e f x = n (are.apart r q p g h e c.was f x)

  apart_after : (r p : ℕ) (g : Kept) → r ≢ q → slots.get s r ≡ Some g → g.place ≡ Some p → h'.place ≢ Some p
  apart_after r p g n e f x = elim (c.new p x) [
    | inl i ↦ apart_before r p g n e f i
    | inr i ↦ let there : IsSome (slots.get lists p) = are.there r p g e f in
        absurd (grind (arith, there, i))
  ]

  same_list : (r p : ℕ) (g : Kept) → r ≢ q → slots.get s r ≡ Some g → g.place ≡ Some p
      → slots.get lists' p ≡ slots.get lists p
  same_list r p g n e f = c.kept p (apart_before r p g n e f) (apart_after r p g n e f)

  same_node : (g : Kept) → ((p : ℕ) → g.place ≡ Some p → slots.get lists' p ≡ slots.get lists p)
      → node_of lists' g ≡ node_of lists g
  same_node g same = go g.place refl
    where
      go : (o : Option ℕ) → g.place ≡ o → node_of lists' g ≡ node_of lists g
      go None e = cc
      go (Some p) e = let l = same p e in cc

  pub changed_others : (r : ℕ) → r ≢ q → slots.get (nodes_of s' lists') r ≡ slots.get (nodes_of s lists) r
  changed_others r n = get-nodes s' lists' r ∙ ap (λ (o : Option Kept). option_map (node_of lists') o) (c.others r n)
      ∙ at (slots.get s r) refl ∙ sym (get-nodes s lists r)
    where
      at : (o : Option Kept) → slots.get s r ≡ o → option_map (node_of lists') o ≡ option_map (node_of lists) o
      at None e = refl
      at (Some g) e = ap (λ (x : Option Known). Some x) (same_node g (λ p f. same_list r p g n e f))

  pub changed_here : slots.get (nodes_of s' lists') q ≡ Some (node_of lists' h')
  changed_here = get-nodes s' lists' q ∙ ap (λ (o : Option Kept). option_map (node_of lists') o) c.now

  pub changed_listed : AreListed s' lists'
  changed_listed = record {
    there = λ r p g e f. elim (eqb_tells r q) [
      | inl i ↦ c.has p (let is : Some h' ≡ Some g = sym c.now ∙ sym (ap (λ (z : ℕ). slots.get s' z) i.1) ∙ e in cc)
      | inr i ↦ let was = sym (c.others r i.1) ∙ e in
          subst (λ (o : Option (List (Edge ℕ ℕ))). IsSome o) (sym (same_list r p g i.1 was f)) (are.there r p g was f)
    ];
    apart = λ r t p g k e f x y. elim (eqb_tells r q) [
      | inl i ↦ elim (eqb_tells t q) [
        | inl j ↦ i.1 ∙ sym j.1
        | inr j ↦ let is : Some h' ≡ Some g = sym c.now ∙ sym (ap (λ (z : ℕ). slots.get s' z) i.1) ∙ e in
            absurd (apart_after t p k j.1 (sym (c.others t j.1) ∙ f) y (cc))
      ]
      | inr i ↦ elim (eqb_tells t q) [
        | inl j ↦ let is : Some h' ≡ Some k = sym c.now ∙ sym (ap (λ (z : ℕ). slots.get s' z) j.1) ∙ f in
            absurd (apart_after r p g i.1 (sym (c.others r i.1) ∙ e) x (cc))
        | inr j ↦ are.apart r t p g k (sym (c.others r i.1) ∙ e) (sym (c.others t j.1) ∙ f) x y
      ]
    ];
    few = omega (arith, are.few, c.lens, c.counted);
    room = omega (arith, are.room, c.len, c.capacity);
    small = omega (arith, are.small, c.len);
  }

-- a record is written
module _ (s : slots.Slab Kept) (q : ℕ) (h h' : Kept) (value : slots.get s q ≡ Some h) where
  within : q < length s.slots
  within = ContainsKey-within s q (ap is_some value)

  pub write_len : slots.slab_len (slots.with_value s q h') ≡ slots.slab_len s
  write_len =
      let f : Option Kept → ℕ = λ o. cond (is_some o) 1 0 in
      let was : f (get_or s.slots q None) ≡ 1 = ap f value in
      let set = sum_by-set f s.slots q (Some h') None within in
      omega (arith, was, set)

  pub write_counted : count_by has_list (slots.with_value s q h').slots + bit h.place
      ≡ count_by has_list s.slots + bit h'.place
  write_counted =
      let f : Option Kept → ℕ = λ o. cond (has_list o) 1 0 in
      let was : f (get_or s.slots q None) ≡ bit h.place = ap f value in
      let set = sum_by-set f s.slots q (Some h') None within in
      omega (arith, was, set)

  write : slots.Updates s (slots.with_value s q h') q (Some h')
  write = Updates-with_value s q h' (ap is_some value)

  pub write_at : slots.get (slots.with_value s q h') q ≡ Some h'
  write_at = write.changed

  -- and no list
  pub write_changed : (lists : slots.Slab (List (Edge ℕ ℕ))) → AreListed s lists → h'.place ≡ h.place
      → Changed s (slots.with_value s q h') lists lists q h h'
  write_changed lists are same = record {
    was = value;
    now = write.changed;
    others = write.others;
    len = write_len;
    counted = write_counted;
    kept = λ p n m. refl;
    has = λ p e. are.there q p h value (sym same ∙ e);
    new = λ p e. inl (sym same ∙ e);
    lens = let bits = ap bit same in omega (arith, bits);
    capacity = refl;
  }

  -- and its edges go to a new list
  pub write_stored : (lists lists' : slots.Slab (List (Edge ℕ ℕ))) (place : ℕ) (list : List (Edge ℕ ℕ))
      → h.place ≡ None → h'.place ≡ Some place → slots.get lists place ≡ None
      → slots.Updates lists lists' place (Some list) → slots.slab_len lists' ≡ slots.slab_len lists + 1
      → lists'.capacity ≡ lists.capacity → Changed s (slots.with_value s q h') lists lists' q h h'
  write_stored lists lists' place list none some free up more room = record {
    was = value;
    now = write.changed;
    others = write.others;
    len = write_len;
    counted = write_counted;
    kept = λ p n m. up.others p (λ e. m (some ∙ sym (ap (λ (z : ℕ). Some z) e)));
    has = λ p e. let is : p ≡ place = cc in
        subst (λ (z : ℕ). slots.ContainsKey lists' z) (sym is) (ap is_some up.changed);
    new = λ p e. let is : p ≡ place = cc in inr (ap (λ (z : ℕ). slots.get lists z) is ∙ free);
    lens = let bits = ap bit none in let bits' = ap bit some in omega (arith, bits, bits', more);
    capacity = room;
  }

  -- and its list goes
  pub write_dropped : (lists lists' : slots.Slab (List (Edge ℕ ℕ))) (place : ℕ)
      → h.place ≡ Some place → h'.place ≡ None → slots.Updates lists lists' place None
      → slots.slab_len lists' + 1 ≡ slots.slab_len lists → lists'.capacity ≡ lists.capacity
      → Changed s (slots.with_value s q h') lists lists' q h h'
  write_dropped lists lists' place some none up less room = record {
    was = value;
    now = write.changed;
    others = write.others;
    len = write_len;
    counted = write_counted;
    kept = λ p n m. up.others p (λ e. n (some ∙ sym (ap (λ (z : ℕ). Some z) e)));
    has = λ p e. let bad : None ≡ Some p = sym none ∙ e in cc;
    new = λ p e. let bad : None ≡ Some p = sym none ∙ e in cc;
    lens = let bits = ap bit none in let bits' = ap bit some in omega (arith, bits, bits', less);
    capacity = room;
  }

-- a list is written, and no record
pub list_changed : (s : slots.Slab Kept) (lists lists' : slots.Slab (List (Edge ℕ ℕ))) (q place : ℕ) (h : Kept)
    → slots.get s q ≡ Some h → h.place ≡ Some place → AreListed s lists
    → ((p : ℕ) → p ≢ place → slots.get lists' p ≡ slots.get lists p)
    → ((p : ℕ) → is_some (slots.get lists' p) ≡ is_some (slots.get lists p))
    → slots.slab_len lists' ≡ slots.slab_len lists → lists'.capacity ≡ lists.capacity
    → Changed s s lists lists' q h h
list_changed s lists lists' q place h value some are others there len room = record {
  was = value;
  now = value;
  others = λ r n. refl;
  len = refl;
  counted = refl;
  kept = λ p n m. others p (λ e. n (some ∙ sym (ap (λ (z : ℕ). Some z) e)));
  has = λ p e. there p ∙ are.there q p h value e;
  new = λ p e. inl e;
  lens = omega (arith, len);
  capacity = room;
}

-- a node changes as its record does
step : (b : Bool) (f : Known → Known) (x y : Known) → x ≡ f y → cond b None (Some x) ≡ option_map f (cond b None (Some y))
step true f x y e = refl
step false f x y e = ap (λ (n : Known). Some n) e

module _ (s : slots.Slab Kept) (lists : slots.Slab (List (Edge ℕ ℕ))) (q : ℕ) (h : Kept) (value : slots.get s q ≡ Some h)
    (f : Known → Known) where
  -- what a node becomes by its record
  pub becomes : (s' : slots.Slab Kept) (lists' : slots.Slab (List (Edge ℕ ℕ))) (h' : Kept)
      → slots.get (nodes_of s' lists') q ≡ Some (node_of lists' h')
      → node_of lists' h' ≡ option_map f (node_of lists h)
      → slots.get (nodes_of s' lists') q ≡ option_map (option_map f) (slots.get (nodes_of s lists) q)
  becomes s' lists' h' here same = here ∙ ap (λ (x : Option Known). Some x) same
      ∙ sym (ap (λ (o : Option (Option Known)). option_map (option_map f) o)
      (get-nodes s lists q ∙ ap (λ (o : Option Kept). option_map (node_of lists) o) value))

  -- the edges stay
  pub node_kept : (h' : Kept) → h' ≡ record h { node = f h.node }
      → ((es : List (Edge ℕ ℕ)) (n : Known) → with_edges es (f n) ≡ f (with_edges es n))
      → ((n : Known) → (f n).edges ≡ n.edges) → node_of lists h' ≡ option_map f (node_of lists h)
  node_kept h' e through keeps = ap (λ (x : Kept). node_of lists x) e
      ∙ step h.is_killed f _ (with_edges (edges_from lists h.place h.node.edges) h.node)
      (ap (λ (es : List (Edge ℕ ℕ)). with_edges (edges_from lists h.place es) (f h.node)) (keeps h.node)
      ∙ through (edges_from lists h.place h.node.edges) h.node)

  -- the edges lie in the record
  pub node_own : (h' : Kept) → h.place ≡ None → h' ≡ record h { node = f h.node }
      → node_of lists h' ≡ option_map f (node_of lists h)
  node_own h' none e = ap (λ (x : Kept). node_of lists x) e
      ∙ step h.is_killed f _ (with_edges (edges_from lists h.place h.node.edges) h.node)
      (ap (λ (o : Option ℕ). with_edges (edges_from lists o (f h.node).edges) (f h.node)) none
      ∙ sym (ap (λ (o : Option ℕ). f (with_edges (edges_from lists o h.node.edges) h.node)) none))

-- a record is written that keeps the place of its list
module _ (s : slots.Slab Kept) (lists : slots.Slab (List (Edge ℕ ℕ))) (are : AreListed s lists) (q : ℕ) (h h' : Kept)
    (value : slots.get s q ≡ Some h) (same : h'.place ≡ h.place) where
  kept_changed : Changed s (slots.with_value s q h') lists lists q h h'
  kept_changed = write_changed s q h h' value lists are same

  pub kept_listed : AreListed (slots.with_value s q h') lists
  kept_listed = changed_listed s _ lists lists q h h' kept_changed are

  pub kept_others : (r : ℕ) → r ≢ q
      → slots.get (nodes_of (slots.with_value s q h') lists) r ≡ slots.get (nodes_of s lists) r
  kept_others = changed_others s _ lists lists q h h' kept_changed are

  pub kept_here : slots.get (nodes_of (slots.with_value s q h') lists) q ≡ Some (node_of lists h')
  kept_here = changed_here s _ lists lists q h h' kept_changed are

  pub kept_by : (f : Known → Known) → h' ≡ record h { node = f h.node }
      → ((es : List (Edge ℕ ℕ)) (n : Known) → with_edges es (f n) ≡ f (with_edges es n))
      → ((n : Known) → (f n).edges ≡ n.edges)
      → slots.get (nodes_of (slots.with_value s q h') lists) q
      ≡ option_map (option_map f) (slots.get (nodes_of s lists) q)
  kept_by f e through keeps = becomes s lists q h value f (slots.with_value s q h') lists h' kept_here
      (node_kept s lists q h value f h' e through keeps)

  pub own_by : (f : Known → Known) → h.place ≡ None → h' ≡ record h { node = f h.node }
      → slots.get (nodes_of (slots.with_value s q h') lists) q
      ≡ option_map (option_map f) (slots.get (nodes_of s lists) q)
  own_by f none e = becomes s lists q h value f (slots.with_value s q h') lists h' kept_here
      (node_own s lists q h value f h' none e)

-- the edges of a record go to a list
module _ (s : slots.Slab Kept) (lists lists' : slots.Slab (List (Edge ℕ ℕ))) (are : AreListed s lists) (q place : ℕ)
    (h h' : Kept) (list : List (Edge ℕ ℕ)) (value : slots.get s q ≡ Some h) (none : h.place ≡ None)
    (is : h' ≡ record h { node = with_edges [] h.node; place = Some place }) (free : slots.get lists place ≡ None)
    (up : slots.Updates lists lists' place (Some list)) (more : slots.slab_len lists' ≡ slots.slab_len lists + 1)
    (room : lists'.capacity ≡ lists.capacity) where
  stored_changed : Changed s (slots.with_value s q h') lists lists' q h h'
  stored_changed = write_stored s q h h' value lists lists' place list none (ap (λ (x : Kept). x.place) is) free up more
      room

  pub stored_listed : AreListed (slots.with_value s q h') lists'
  stored_listed = changed_listed s _ lists lists' q h h' stored_changed are

  pub stored_others : (r : ℕ) → r ≢ q
      → slots.get (nodes_of (slots.with_value s q h') lists') r ≡ slots.get (nodes_of s lists) r
  stored_others = changed_others s _ lists lists' q h h' stored_changed are

  pub stored_here : slots.get (nodes_of (slots.with_value s q h') lists') q
      ≡ option_map (option_map (with_edges list)) (slots.get (nodes_of s lists) q)
  stored_here = becomes s lists q h value (with_edges list) (slots.with_value s q h') lists' h'
      (changed_here s _ lists lists' q h h' stored_changed are)
      (ap (λ (x : Kept). node_of lists' x) is
      ∙ step h.is_killed (with_edges list) _ (with_edges (edges_from lists h.place h.node.edges) h.node)
      (ap (λ (o : Option (List (Edge ℕ ℕ))). with_edges (list_in o) h.node) up.changed))

-- the list of a record goes, and its edges
module _ (s : slots.Slab Kept) (lists lists' : slots.Slab (List (Edge ℕ ℕ))) (are : AreListed s lists) (q place : ℕ)
    (h h' : Kept) (value : slots.get s q ≡ Some h) (some : h.place ≡ Some place)
    (is : h' ≡ record h { node = with_edges [] h.node; place = None })
    (up : slots.Updates lists lists' place None) (less : slots.slab_len lists' + 1 ≡ slots.slab_len lists)
    (room : lists'.capacity ≡ lists.capacity) where
  dropped_changed : Changed s (slots.with_value s q h') lists lists' q h h'
  dropped_changed = write_dropped s q h h' value lists lists' place some (ap (λ (x : Kept). x.place) is) up less room

  pub dropped_listed : AreListed (slots.with_value s q h') lists'
  dropped_listed = changed_listed s _ lists lists' q h h' dropped_changed are

  pub dropped_others : (r : ℕ) → r ≢ q
      → slots.get (nodes_of (slots.with_value s q h') lists') r ≡ slots.get (nodes_of s lists) r
  dropped_others = changed_others s _ lists lists' q h h' dropped_changed are

  pub dropped_here : slots.get (nodes_of (slots.with_value s q h') lists') q
      ≡ option_map (option_map (with_edges [])) (slots.get (nodes_of s lists) q)
  dropped_here = becomes s lists q h value (with_edges []) (slots.with_value s q h') lists' h'
      (changed_here s _ lists lists' q h h' dropped_changed are)
      (ap (λ (x : Kept). node_of lists' x) is
      ∙ step h.is_killed (with_edges []) _ (with_edges (edges_from lists h.place h.node.edges) h.node) refl)

-- a record whose own edges go to a list stays the same
pub own_listed : (s s' : slots.Slab Kept) (lists lists' : slots.Slab (List (Edge ℕ ℕ))) (q : ℕ) (h : Kept)
    → slots.get s q ≡ Some h → h.place ≡ None → (list : List (Edge ℕ ℕ)) → list ≡ h.node.edges
    → slots.get (nodes_of s' lists') q ≡ option_map (option_map (with_edges list)) (slots.get (nodes_of s lists) q)
    → ((r : ℕ) → r ≢ q → slots.get (nodes_of s' lists') r ≡ slots.get (nodes_of s lists) r)
    → (r : ℕ) → slots.get (nodes_of s' lists') r ≡ slots.get (nodes_of s lists) r
own_listed s s' lists lists' q h value none list own here others r = elim (eqb_tells r q) [
  | inl i ↦ subst (λ (z : ℕ). slots.get (nodes_of s' lists') z ≡ slots.get (nodes_of s lists) z) (sym i.1) (here ∙ same)
  | inr i ↦ others r i.1
]
  where
    go : (b : Bool) → option_map (with_edges list)
        (cond b None (Some (with_edges (edges_from lists h.place h.node.edges) h.node)))
        ≡ cond b None (Some (with_edges (edges_from lists h.place h.node.edges) h.node))
    go true = refl
    go false = ap (λ (es : List (Edge ℕ ℕ)). Some (with_edges es h.node))
        (own ∙ sym (ap (λ (o : Option ℕ). edges_from lists o h.node.edges) none))

    same : option_map (option_map (with_edges list)) (slots.get (nodes_of s lists) q) ≡ slots.get (nodes_of s lists) q
    same = subst (λ (o : Option (Option Known)). option_map (option_map (with_edges list)) o ≡ o)
        (sym (get-nodes s lists q ∙ ap (λ (o : Option Kept). option_map (node_of lists) o) value))
        (ap (λ (x : Option Known). Some x) (go h.is_killed))

-- a list is written
module _ (s : slots.Slab Kept) (lists lists' : slots.Slab (List (Edge ℕ ℕ))) (are : AreListed s lists) (q place : ℕ)
    (h : Kept) (value : slots.get s q ≡ Some h) (some : h.place ≡ Some place)
    (others : (p : ℕ) → p ≢ place → slots.get lists' p ≡ slots.get lists p)
    (there : (p : ℕ) → is_some (slots.get lists' p) ≡ is_some (slots.get lists p))
    (len : slots.slab_len lists' ≡ slots.slab_len lists) (room : lists'.capacity ≡ lists.capacity) where
  list_is_changed : Changed s s lists lists' q h h
  list_is_changed = list_changed s lists lists' q place h value some are others there len room

  pub list_others : (r : ℕ) → r ≢ q → slots.get (nodes_of s lists') r ≡ slots.get (nodes_of s lists) r
  list_others = changed_others s s lists lists' q h h list_is_changed are

-- the same where the record is known by its node
pub taken_others : (s : slots.Slab Kept) (lists lists' : slots.Slab (List (Edge ℕ ℕ))) → AreListed s lists
    → (q place : ℕ) → IsSome (join (slots.get (nodes_of s lists) q))
    → IfSome (slots.get s q) (λ h. h.place ≡ Some place)
    → ((p : ℕ) → p ≢ place → slots.get lists' p ≡ slots.get lists p)
    → ((p : ℕ) → is_some (slots.get lists' p) ≡ is_some (slots.get lists p))
    → slots.slab_len lists' ≡ slots.slab_len lists → lists'.capacity ≡ lists.capacity
    → (r : ℕ) → r ≢ q → slots.get (nodes_of s lists') r ≡ slots.get (nodes_of s lists) r
taken_others s lists lists' are q place node some others there len room =
    go (slots.get s q) refl (subst (λ (o : Option (Option Known)). IsSome (join o)) (get-nodes s lists q) node) some
  where
    go : (o : Option Kept) → slots.get s q ≡ o → IsSome (join (option_map (node_of lists) o))
        → IfSome o (λ h. h.place ≡ Some place)
        → (r : ℕ) → r ≢ q → slots.get (nodes_of s lists') r ≡ slots.get (nodes_of s lists) r
    go None e h p = absurd (true≢false (sym h))
    go (Some h) e t p = list_others s lists lists' are q place h e p others there len room

-- a node without edges gets its first one
pub first_given : (o : Option (Option Known)) (list : List (Edge ℕ ℕ)) (e : Edge ℕ ℕ) → (record_or (join o)).edges ≡ []
    → length list ≡ 1 → slice_get list 0 ≡ Some e
    → option_map (option_map (with_edge e)) o ≡ option_map (option_map (with_edges list)) o
first_given None list e none one is = refl
first_given (Some None) list e none one is = refl
first_given (Some (Some n)) list e none one is = ap (λ (es : List (Edge ℕ ℕ)). Some (Some (with_edges es n)))
    (ap (λ (es : List (Edge ℕ ℕ)). put_edge e es) none ∙ sym (only list one is))
  where
    only : (list : List (Edge ℕ ℕ)) → length list ≡ 1 → slice_get list 0 ≡ Some e → list ≡ e ∷ []
    only [] one is = absurd (cc)
    only (x ∷ []) one is = cc
    only (x ∷ y ∷ xs) one is = absurd (omega (arith, one))

-- at most each record has a list
bit_few : (o : Option ℕ) → bit o ≤ 1
bit_few None = omega arith
bit_few (Some p) = omega arith

listed_few : (xs : List (Option Kept)) → count_by has_list xs ≤ count_by is_some xs
listed_few [] = omega arith
listed_few (None ∷ xs) = omega (
  arith,
  listed_few xs,
  sum_by-cons (λ (o : Option Kept). cond (has_list o) 1 0) None xs,
  sum_by-cons (λ (o : Option Kept). cond (is_some o) 1 0) None xs,
)
listed_few (Some h ∷ xs) = omega (
  arith,
  listed_few xs,
  bit_few h.place,
  sum_by-cons (λ (o : Option Kept). cond (has_list o) 1 0) (Some h) xs,
  sum_by-cons (λ (o : Option Kept). cond (is_some o) 1 0) (Some h) xs,
)

listed_fewer : (xs : List (Option Kept)) (k : ℕ) (h : Kept) → get_or xs k None ≡ Some h → h.place ≡ None
    → count_by has_list xs < count_by is_some xs
listed_fewer [] k h e none = absurd (cc)
listed_fewer (x ∷ xs) zero h e none = let bits : ◌≡◌ {A = ℕ} (bit h.place) 0 = ap bit none in
    let is : x ≡ Some h = e in
    let lists : ◌≡◌ {A = ℕ} (cond (has_list x) 1 0) (bit h.place) = ap (λ (o : Option Kept). cond (has_list o) 1 0) is in
    let somes : ◌≡◌ {A = ℕ} (cond (is_some x) 1 0) 1 = ap (λ (o : Option Kept). cond (is_some o) 1 0) is in
    omega (
      arith,
      listed_few xs,
      bits,
      lists,
      somes,
      sum_by-cons (λ (o : Option Kept). cond (has_list o) 1 0) x xs,
      sum_by-cons (λ (o : Option Kept). cond (is_some o) 1 0) x xs,
    )
listed_fewer (None ∷ xs) (suc k) h e none = omega (
  arith,
  listed_fewer xs k h e none,
  sum_by-cons (λ (o : Option Kept). cond (has_list o) 1 0) None xs,
  sum_by-cons (λ (o : Option Kept). cond (is_some o) 1 0) None xs,
)
listed_fewer (Some g ∷ xs) (suc k) h e none = omega (
  arith,
  listed_fewer xs k h e none,
  bit_few g.place,
  sum_by-cons (λ (o : Option Kept). cond (has_list o) 1 0) (Some g) xs,
  sum_by-cons (λ (o : Option Kept). cond (is_some o) 1 0) (Some g) xs,
)

-- where a record has no list, there is room for one
pub list_room : (s : slots.Slab Kept) (lists : slots.Slab (List (Edge ℕ ℕ))) (q : ℕ) → AreListed s lists
    → slots.ContainsKey s q → IfSome (slots.get s q) (λ h. h.place ≡ None)
    → slots.slab_len lists < slots.slab_len s
list_room s lists q are there unlisted = go (slots.get s q) refl there unlisted
  where
    go : (o : Option Kept) → slots.get s q ≡ o → IsSome o → IfSome o (λ h. h.place ≡ None)
        → slots.slab_len lists < slots.slab_len s
    go None e h n = absurd (true≢false (sym h))
    go (Some h) e t n = omega (arith, are.few, listed_fewer s.slots q h e n)

-- what holds of a slot holds of its node
pub join_by : (f : Known → Known) (o was : Option (Option Known)) → o ≡ option_map (option_map f) was
    → join o ≡ option_map f (join was)
join_by f o None e = ap join e
join_by f o (Some None) e = ap join e
join_by f o (Some (Some n)) e = ap join e

-- what a record was read to have, it has when it is written
pub same_place : (s : slots.Slab Kept) (q : ℕ) (g h : Kept) → slots.get s q ≡ Some g → slots.get s q ≡ Some h
    → (o : Option ℕ) → o ≡ g.place → h.place ≡ o
same_place s q g h e f o is = let one : Some h ≡ Some g = sym f ∙ e in
    sym (is ∙ sym (ap (λ (x : Option Kept). place_of x) one))
  where
    place_of : Option Kept → Option ℕ
    place_of None = None
    place_of (Some k) = k.place

-- lists with the same places count the same
same_count : (xs ys : List (Option Kept)) → ((k : ℕ) → has_list (get_or xs k None) ≡ has_list (get_or ys k None))
    → count_by has_list xs ≡ count_by has_list ys
same_count [] [] h = refl
same_count [] (y ∷ ys) h =
    let bit : ◌≡◌ {A = ℕ} (cond (has_list y) 1 0) 0 = ap (λ (b : Bool). cond b 1 0) (sym (h 0)) in
    omega (arith, bit, same_count [] ys (λ k. h (suc k)), sum_by-cons (λ (o : Option Kept). cond (has_list o) 1 0) y ys)
same_count (x ∷ xs) [] h =
    let bit : ◌≡◌ {A = ℕ} (cond (has_list x) 1 0) 0 = ap (λ (b : Bool). cond b 1 0) (h 0) in
    omega (arith, bit, same_count xs [] (λ k. h (suc k)), sum_by-cons (λ (o : Option Kept). cond (has_list o) 1 0) x xs)
same_count (x ∷ xs) (y ∷ ys) h =
    let bit : ◌≡◌ {A = ℕ} (cond (has_list x) 1 0) (cond (has_list y) 1 0) = ap (λ (b : Bool). cond b 1 0) (h 0) in
    omega (
      arith,
      bit,
      same_count xs ys (λ k. h (suc k)),
      sum_by-cons (λ (o : Option Kept). cond (has_list o) 1 0) x xs,
      sum_by-cons (λ (o : Option Kept). cond (has_list o) 1 0) y ys,
    )

pub no_list : (o : Option Kept) → IfSome o (λ h. h.place ≡ None) → has_list o ≡ false
no_list None h = refl
no_list (Some g) h = ap is_some h

-- a record without a list comes or goes
module _ (s s' : slots.Slab Kept) (lists : slots.Slab (List (Edge ℕ ℕ))) (k : ℕ)
    (others : (q : ℕ) → q ≢ k → slots.get s' q ≡ slots.get s q) where
  pub moved_others : (q : ℕ) → q ≢ k → slots.get (nodes_of s' lists) q ≡ slots.get (nodes_of s lists) q
  moved_others q n = get-nodes s' lists q ∙ ap (λ (o : Option Kept). option_map (node_of lists) o) (others q n)
      ∙ sym (get-nodes s lists q)

  pub moved_listed : AreListed s lists → has_list (slots.get s k) ≡ false → has_list (slots.get s' k) ≡ false
      → slots.slab_len s' ≤ lists.capacity → slots.slab_len s' ≤ 4000000000 → AreListed s' lists
  moved_listed are none none' room small =
      let apart : (q p : ℕ) (h : Kept) → slots.get s' q ≡ Some h → h.place ≡ Some p → q ≢ k = λ q p h e f i.
      let at : has_list (Some h) ≡ false = sym (ap has_list (sym (ap (λ (z : ℕ). slots.get s' z) i) ∙ e)) ∙ none' in
      true≢false (sym (ap is_some f) ∙ at) in
      record {
        there = λ q p h e f. are.there q p h (sym (others q (apart q p h e f)) ∙ e) f;
        apart = λ q r p g h e f x y. are.apart q r p g h (sym (others q (apart q p g e x)) ∙ e)
            (sym (others r (apart r p h f y)) ∙ f) x y;
        few = let same = same_count s'.slots s.slots (λ q. elim (eqb_tells q k) [
          | inl i ↦ ap (λ (z : ℕ). has_list (slots.get s' z)) i.1 ∙ none'
              ∙ sym (ap (λ (z : ℕ). has_list (slots.get s z)) i.1 ∙ none)
          | inr i ↦ ap has_list (others q i.1)
        ]) in omega (arith, are.few, same);
        room = room;
        small = small;
      }

-- the edges of a node whose record keeps them
pub seen_own : (s : slots.Slab Kept) (lists : slots.Slab (List (Edge ℕ ℕ))) (q : ℕ) (h : Kept) → slots.get s q ≡ Some h
    → h.place ≡ None → IsSome (join (slots.get (nodes_of s lists) q))
    → (record_or (join (slots.get (nodes_of s lists) q))).edges ≡ h.node.edges
seen_own s lists q h e none there = ap (λ (o : Option (Option Known)). (record_or (join o)).edges) at
    ∙ go h.is_killed (subst (λ (o : Option (Option Known)). IsSome (join o)) at there)
    ∙ ap (λ (o : Option ℕ). edges_from lists o h.node.edges) none
  where
    at : slots.get (nodes_of s lists) q ≡ Some (node_of lists h)
    at = get-nodes s lists q ∙ ap (λ (o : Option Kept). option_map (node_of lists) o) e

    go : (b : Bool) → IsSome (cond b None (Some (with_edges (edges_from lists h.place h.node.edges) h.node)))
        → (record_or (cond b None (Some (with_edges (edges_from lists h.place h.node.edges) h.node)))).edges
        ≡ edges_from lists h.place h.node.edges
    go true t = absurd (true≢false (sym t))
    go false t = refl

-- a node that changes is there
pub there_after : (f : Known → Known) (o was : Option (Option Known)) → o ≡ option_map (option_map f) was
    → IsSome (join was) → IsSome (join o)
there_after f o None e h = absurd (true≢false (sym h))
there_after f o (Some None) e h = absurd (true≢false (sym h))
there_after f o (Some (Some n)) e h = ap (λ (x : Option (Option Known)). is_some (join x)) e

-- the node of a record that isn't killed
pub node_alive : (lists : slots.Slab (List (Edge ℕ ℕ))) (h : Kept) → h.is_killed ≡ false
    → node_of lists h ≡ Some (with_edges (edges_from lists h.place h.node.edges) h.node)
node_alive lists h e =
    ap (λ (b : Bool). cond b None (Some (with_edges (edges_from lists h.place h.node.edges) h.node))) e

-- a record without edges is written over one without a list
pub bare_here : (s : slots.Slab Kept) (lists : slots.Slab (List (Edge ℕ ℕ))) → AreListed s lists → (q : ℕ) (h h' : Kept)
    (n : Known) → slots.get s q ≡ Some h → IfSome (slots.get s q) (λ h. h.place ≡ None) → h'.place ≡ None
    → h'.is_killed ≡ false → h'.node ≡ with_edges [] n
    → slots.get (nodes_of (slots.with_value s q h') lists) q ≡ Some (Some (with_edges [] n))
bare_here s lists are q h h' n value unlisted none alive node =
    kept_here s lists are q h h' value
    (none ∙ sym (subst (λ (o : Option Kept). IfSome o (λ h. h.place ≡ None)) value unlisted))
    ∙ ap (λ (o : Option Known). Some o) (node_alive lists h' alive
    ∙ ap (λ (o : Option ℕ). Some (with_edges (edges_from lists o h'.node.edges) h'.node)) none
    ∙ ap (λ (k : Known). Some (with_edges k.edges k)) node)
