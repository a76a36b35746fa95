-- The items of open lists, while lists are opened and closed and items come and go.
use Rattle.std.proofs.Common.{◌≡◌, ℕ, ◌+◌, ◌-◌, ◌<◌, ◌≤◌, List, [], ◌∷◌, ◌++◌, length, map, take, drop, reverse, refl, sym, ap, ◌∙◌, arith, subst, length-append, Some, None, MatchOption}
use Rattle.std.proofs.lemmas.List.{length-map, length_push, length-drop, length-take-le, reverse-append, take_all, drop_all, take-append-drop, take-append-le, drop-append-le, append-nil}
use Rattle.std.specs.Prelude.{Option, IfSome, IfNone, option_to_list}
use Rattle.mt_arena.specs.declared.thing.Thing.{Thing}
use Rattle.mt_arena.specs.Arena.{Held, value_in, first_open, other_open}
use Rattle.mt_arena.specs.Keeping.{HeldLists, AllLists}
use Rattle.mt_arena.specs.inner.Backward.{top_in, below_in, first_start, Falls, AllWithin, elements_of}
use Rattle.mt_arena.proofs.Growing.{map_push, closes, keeps_pending, all_lists_drop}

-- ---- a list is opened

pub opened : (ns ms : List ℕ) (n : ℕ) → ms ≡ ns ++ n ∷ [] → reverse ms ≡ n ∷ reverse ns
opened ns ms n e = ap reverse e ∙ reverse-append ns (n ∷ [])

pub opened_top : (hs : List Held) (ns ms : List ℕ) (n : ℕ) → ms ≡ ns ++ n ∷ [] → n ≡ length hs → top_in hs (reverse ms) ≡ []
opened_top hs ns ms n e l = ap (top_in hs) (opened ns ms n e) ∙ drop_all n hs (omega (arith, l))

pub opened_below : (hs : List Held) (ns ms : List ℕ) (n : ℕ) → ms ≡ ns ++ n ∷ [] → n ≡ length hs
    → below_in hs (reverse ms) ≡ top_in hs (reverse ns) ∷ below_in hs (reverse ns)
opened_below hs ns ms n e l =
    ap (below_in hs) (opened ns ms n e) ∙ ap (λ x. top_in x (reverse ns) ∷ below_in x (reverse ns)) (take_all n hs (omega (arith, l)))

pub opened_falls : (m : ℕ) (ns ms : List ℕ) (n : ℕ) → ms ≡ ns ++ n ∷ [] → n ≡ m → Falls m (reverse ns) → Falls m (reverse ms)
opened_falls m ns ms n e l h =
    subst (Falls m) (sym (opened ns ms n e)) (omega (arith, l), subst (λ k. Falls k (reverse ns)) (sym l) h)

-- ---- an item comes, or goes

pub falls_more : (n m : ℕ) (ss : List ℕ) → n ≤ m → Falls n ss → Falls m ss
falls_more n m [] l h = tt
falls_more n m (s ∷ ss) l h = (omega (arith, l, h.0), h.1)

falls_less : (n m : ℕ) (ss : List ℕ) → first_start ss ≤ m → Falls n ss → Falls m ss
falls_less n m [] l h = tt
falls_less n m (s ∷ ss) l h = (l, h.1)

pub push_falls : (ps qs : List Thing) (t : Thing) (ss : List ℕ) → qs ≡ ps ++ t ∷ [] → Falls (length ps) ss → Falls (length qs) ss
push_falls ps qs t ss e h = falls_more (length ps) (length qs) ss (omega (arith, ap length e, length_push ps t)) h

more_top : (hs : List Held) (h : Held) (ss : List ℕ) → Falls (length hs) ss → top_in (hs ++ h ∷ []) ss ≡ top_in hs ss ++ h ∷ []
more_top hs h [] f = refl
more_top hs h (s ∷ ss) f = drop-append-le s hs (h ∷ []) f.0

more_below : (hs : List Held) (h : Held) (ss : List ℕ) → Falls (length hs) ss → below_in (hs ++ h ∷ []) ss ≡ below_in hs ss
more_below hs h [] f = refl
more_below hs h (s ∷ ss) f = ap (λ x. top_in x ss ∷ below_in x ss) (take-append-le s hs (h ∷ []) f.0)

falls_of : (es : List Held) (ps : List Thing) (ss : List ℕ) → Falls (length ps) ss → Falls (length (map (value_in es) ps)) ss
falls_of es ps ss h = subst (λ n. Falls n ss) (sym (length-map ps (value_in es))) h

pub push_top : (es : List Held) (ps qs : List Thing) (t : Thing) (ss : List ℕ) → qs ≡ ps ++ t ∷ [] → Falls (length ps) ss
    → top_in (map (value_in es) qs) ss ≡ top_in (map (value_in es) ps) ss ++ value_in es t ∷ []
push_top es ps qs t ss e h =
    ap (λ x. top_in (map (value_in es) x) ss) e
    ∙ (ap (λ x. top_in x ss) (map_push es ps t) ∙ more_top (map (value_in es) ps) (value_in es t) ss (falls_of es ps ss h))

pub push_below : (es : List Held) (ps qs : List Thing) (t : Thing) (ss : List ℕ) → qs ≡ ps ++ t ∷ [] → Falls (length ps) ss
    → below_in (map (value_in es) qs) ss ≡ below_in (map (value_in es) ps) ss
push_below es ps qs t ss e h =
    ap (λ x. below_in (map (value_in es) x) ss) e
    ∙ (ap (λ x. below_in x ss) (map_push es ps t) ∙ more_below (map (value_in es) ps) (value_in es t) ss (falls_of es ps ss h))

-- what is left, where the innermost list had an item
pub pop_falls : (ps qs : List Thing) (o : Option Thing) (ss : List ℕ) → ps ≡ qs ++ option_to_list o → first_start ss < length ps → Falls (length ps) ss → Falls (length qs) ss
pop_falls ps qs None ss e l h = subst (λ x. Falls (length x) ss) (e ∙ append-nil qs) h
pop_falls ps qs (Some t) ss e l h = falls_less (length ps) (length qs) ss (omega (arith, l, ap length e, length_push qs t)) h

pub pop_top : (es : List Held) (ps qs : List Thing) (o : Option Thing) (ss : List ℕ) → ps ≡ qs ++ option_to_list o → Falls (length qs) ss
    → IfSome o (λ t. top_in (map (value_in es) ps) ss ≡ top_in (map (value_in es) qs) ss ++ value_in es t ∷ [])
pop_top es ps qs None ss e h = tt
pop_top es ps qs (Some t) ss e h = push_top es qs ps t ss e h

pub pop_below : (es : List Held) (ps qs : List Thing) (o : Option Thing) (ss : List ℕ) → ps ≡ qs ++ option_to_list o → Falls (length qs) ss
    → below_in (map (value_in es) qs) ss ≡ below_in (map (value_in es) ps) ss
pop_below es ps qs None ss e h = ap (λ x. below_in (map (value_in es) x) ss) (sym (e ∙ append-nil qs))
pop_below es ps qs (Some t) ss e h = sym (push_below es qs ps t ss e h)

all_lists_back : (hs ks : List Held) → AllLists (hs ++ ks) → AllLists ks
all_lists_back [] ks h = h
all_lists_back (x ∷ hs) ks h = all_lists_back hs ks h.1

pub pop_lists : (es : List Held) (ps qs : List Thing) (o : Option Thing) → ps ≡ qs ++ option_to_list o → AllLists (map (value_in es) ps)
    → IfSome o (λ t. HeldLists (value_in es t))
pop_lists es ps qs None e h = tt
pop_lists es ps qs (Some t) e h =
    (all_lists_back (map (value_in es) qs) (value_in es t ∷ []) (subst AllLists (ap (map (value_in es)) e ∙ map_push es qs t) h)).0

pub some_popped : (o : Option Thing) (n m k : ℕ) (P : Type 0) → k < n → MatchOption o ((n ≡ 0) × (m ≡ 0)) (λ _. m + 1 ≡ n) → IfNone o P
some_popped None n m k P l h = absurd (omega (arith, l, h.0))
some_popped (Some t) n m k P l h = tt

-- the innermost list has no item
pub empty_top : (hs : List Held) (ss : List ℕ) → length hs ≤ first_start ss → top_in hs ss ≡ []
empty_top [] [] l = refl
empty_top (h ∷ hs) [] l = absurd (omega (arith, l))
empty_top hs (s ∷ ss) l = drop_all s hs l

-- it has none only so
pub only_empty : (hs : List Held) (ss : List ℕ) → top_in hs ss ≡ [] → length hs ≤ first_start ss
only_empty hs [] e = omega (arith, ap length e)
only_empty hs (s ∷ ss) e = omega (arith, ap length e, length-drop s hs)

-- the items of the innermost list are behind those of the list round it
pub joined_top : (hs : List Held) (ss : List ℕ) → Falls (length hs) ss → top_in hs (drop 1 ss) ≡ first_open (below_in hs ss) ++ top_in hs ss
joined_top hs [] h = refl
joined_top hs (s ∷ []) h = sym (take-append-drop s hs)
joined_top hs (s ∷ r ∷ ss) h =
    ap (drop r) (sym (take-append-drop s hs)) ∙ drop-append-le r (take s hs) (drop s hs) (omega (arith, h.1.0, length-take-le s hs h.0))

pub joined_here : (f : Thing → Held) (ps : List Thing) (ss : List ℕ) → Falls (length ps) ss
    → top_in (map f ps) (drop 1 ss) ≡ first_open (below_in (map f ps) ss) ++ top_in (map f ps) ss
joined_here f ps ss h = joined_top (map f ps) ss (subst (λ n. Falls n ss) (sym (length-map ps f)) h)

-- ---- a list is closed

start_within : (n : ℕ) (ss : List ℕ) → Falls n ss → first_start ss ≤ n
start_within n [] h = omega arith
start_within n (s ∷ ss) h = h.0

closed_falls : (n : ℕ) (ss : List ℕ) → Falls n ss → Falls (first_start ss) (drop 1 ss)
closed_falls n [] h = tt
closed_falls n (s ∷ ss) h = h.1

top_from : (hs : List Held) (ss : List ℕ) → top_in hs ss ≡ drop (first_start ss) hs
top_from hs [] = refl
top_from hs (s ∷ ss) = refl

closed_top : (hs : List Held) (ss : List ℕ) → top_in (take (first_start ss) hs) (drop 1 ss) ≡ first_open (below_in hs ss)
closed_top hs [] = refl
closed_top hs (s ∷ ss) = refl

closed_below : (hs : List Held) (ss : List ℕ) → below_in (take (first_start ss) hs) (drop 1 ss) ≡ other_open (below_in hs ss)
closed_below hs [] = refl
closed_below hs (s ∷ ss) = refl

-- without the last start
pub starts_popped : (o : Option ℕ) (ns ms : List ℕ) (n m : ℕ) → ns ≡ ms ++ option_to_list o → m ≡ length ms → MatchOption o ((n ≡ 0) × (m ≡ 0)) (λ _. m + 1 ≡ n)
    → reverse ms ≡ drop 1 (reverse ns)
starts_popped None ns [] n m e l h = sym (ap (λ x. drop 1 (reverse x)) e)
starts_popped None ns (k ∷ ms) n m e l h = absurd (omega (arith, l, h.1))
starts_popped (Some s) ns ms n m e l h = sym (ap (drop 1) (opened ms ns s e))

-- the items of the innermost list were moved behind the things
pub record IsClosed (ts ps us qs : List Thing) (ns ms : List ℕ) (s : ℕ) : Type 0 where
  pub things : us ≡ ts ++ drop s ps
  pub pending : qs ≡ take s ps
  pub starts : reverse ms ≡ drop 1 (reverse ns)
  pub start : s ≡ first_start (reverse ns)
  pub within : AllWithin (length ts) ps
  pub falls : Falls (length ps) (reverse ns)

pub start_there : (ts ps us qs : List Thing) (ns ms : List ℕ) (s : ℕ) → IsClosed ts ps us qs ns ms s → s ≤ length ps
start_there ts ps us qs ns ms s c = omega (arith, c.start, start_within (length ps) (reverse ns) c.falls)

pub closing_length : (ts ps us qs : List Thing) (ns ms : List ℕ) (s : ℕ) → IsClosed ts ps us qs ns ms s → length us ≡ length ts + (length ps - s)
closing_length ts ps us qs ns ms s c = omega (arith, ap length c.things, length-append ts (drop s ps), length-drop s ps)

pub closing_falls : (ts ps us qs : List Thing) (ns ms : List ℕ) (s : ℕ) → IsClosed ts ps us qs ns ms s → Falls (length qs) (reverse ms)
closing_falls ts ps us qs ns ms s c =
    let n : first_start (reverse ns) ≡ length qs = omega (arith, c.start, ap length c.pending, length-take-le s ps (start_there ts ps us qs ns ms s c)) in
    subst (Falls (length qs)) (sym c.starts) (subst (λ k. Falls k (drop 1 (reverse ns))) n (closed_falls (length ps) (reverse ns) c.falls))

pub closing_items : (ts ps us qs : List Thing) (ns ms : List ℕ) (s : ℕ) → IsClosed ts ps us qs ns ms s
    → map (value_in (elements_of us)) qs ≡ take s (map (value_in (elements_of ts)) ps)
closing_items ts ps us qs ns ms s c =
    ap (λ x. map (value_in (elements_of x)) qs) c.things
    ∙ (ap (λ x. map (value_in (elements_of (ts ++ drop s ps))) x) c.pending ∙ keeps_pending ts ps s c.within)

pub closing_drops : (ts ps us qs : List Thing) (ns ms : List ℕ) (s : ℕ) (hs : List Held) → IsClosed ts ps us qs ns ms s → drop s hs ≡ top_in hs (reverse ns)
closing_drops ts ps us qs ns ms s hs c = ap (λ n. drop n hs) c.start ∙ sym (top_from hs (reverse ns))

pub closing_closed : (ts ps us qs : List Thing) (ns ms : List ℕ) (s : ℕ) → IsClosed ts ps us qs ns ms s
    → elements_of us ≡ elements_of ts ++ top_in (map (value_in (elements_of ts)) ps) (reverse ns)
closing_closed ts ps us qs ns ms s c =
    ap elements_of c.things
    ∙ (closes ts ps s c.within ∙ ap (λ x. elements_of ts ++ x) (closing_drops ts ps us qs ns ms s (map (value_in (elements_of ts)) ps) c))

pub closing_top : (ts ps us qs : List Thing) (ns ms : List ℕ) (s : ℕ) → IsClosed ts ps us qs ns ms s
    → top_in (map (value_in (elements_of us)) qs) (reverse ms) ≡ first_open (below_in (map (value_in (elements_of ts)) ps) (reverse ns))
closing_top ts ps us qs ns ms s c =
    let hs = map (value_in (elements_of ts)) ps in
    ap (top_in (map (value_in (elements_of us)) qs)) c.starts
    ∙ (ap (λ x. top_in x (drop 1 (reverse ns))) (closing_items ts ps us qs ns ms s c ∙ ap (λ n. take n hs) c.start) ∙ closed_top hs (reverse ns))

pub closing_below : (ts ps us qs : List Thing) (ns ms : List ℕ) (s : ℕ) → IsClosed ts ps us qs ns ms s
    → below_in (map (value_in (elements_of us)) qs) (reverse ms) ≡ other_open (below_in (map (value_in (elements_of ts)) ps) (reverse ns))
closing_below ts ps us qs ns ms s c =
    let hs = map (value_in (elements_of ts)) ps in
    ap (below_in (map (value_in (elements_of us)) qs)) c.starts
    ∙ (ap (λ x. below_in x (drop 1 (reverse ns))) (closing_items ts ps us qs ns ms s c ∙ ap (λ n. take n hs) c.start) ∙ closed_below hs (reverse ns))

pub top_lists : (hs : List Held) (ss : List ℕ) → AllLists hs → AllLists (top_in hs ss)
top_lists hs [] h = h
top_lists hs (s ∷ ss) h = all_lists_drop s hs h
