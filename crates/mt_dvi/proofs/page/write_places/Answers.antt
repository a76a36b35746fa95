use Rattle.std.proofs.Common.{◌≡◌, ◌∙◌, refl, sym, arith, to_z, of_z, w64}
use Rattle.std.proofs.lemmas.Int.{ints}
use Rattle.std.proofs.lemmas.List.{take_all}
use Rattle.mt_dvi.specs.Writable.{IsWritable}
use Rattle.mt_dvi.proofs.Greatest.{edges_end, edges_next}
use Rattle.mt_dvi.proofs.PagePlaces.{all_later, can_h, can_v, down_first, first_place, later_length, places_end, places_next, places_start, reach_first}
use Rattle.mt_dvi.proofs.PlaceLemmas.{at_place, place_there}
use Rattle.mt_dvi.proofs.RowLemmas.{row_back}
use Rattle.mt_dvi.proofs.page.write_places.Goals as goal

pub loop-rest-init : goal.loop-rest-init
loop-rest-init c = record {
  written = rw (take_all c.len-at.result c.args.out.now.items (omega arith)) (places_start _ _ _ _ c.requires.can);
  edges = refl;
  within = omega arith;
  long = omega arith;
}

pub move_to-at-requires-clause-right : goal.move_to-at-requires-clause-right
move_to-at-requires-clause-right c = reach_first c.loop-rest.cursor c.loop-rest.rest.now _ c.in-len1-up.len_at_least c.loop-rest.invariant.written.reach

pub move_to-at-requires-clause-down : goal.move_to-at-requires-clause-down
move_to-at-requires-clause-down c = down_first c.args.fonts.now c.loop-rest.rest.now _ c.loop-rest.cursor.v c.in-len1-up.len_at_least c.loop-rest.invariant.written.can c.loop-rest.invariant.written.v

pub move_to-at-requires-clause-h : goal.move_to-at-requires-clause-h
move_to-at-requires-clause-h c = can_h c.args.fonts.now _ (first_place (IsWritable c.args.fonts.now) c.loop-rest.rest.now _ c.in-len1-up.len_at_least c.loop-rest.invariant.written.can)

pub move_to-at-requires-clause-v : goal.move_to-at-requires-clause-v
move_to-at-requires-clause-v c = can_v c.args.fonts.now _ (first_place (IsWritable c.args.fonts.now) c.loop-rest.rest.now _ c.in-len1-up.len_at_least c.loop-rest.invariant.written.can)

pub must_put-put-requires-clause-next : goal.must_put-put-requires-clause-next
must_put-put-requires-clause-next c = λ k d lt. can_h c.args.fonts.now _ (all_later (IsWritable c.args.fonts.now) c.loop-rest.rest.now c.in-len1-up.len_at_least c.loop-rest.invariant.written.can k d lt)

pub loop-rest-preserved : goal.loop-rest-preserved
loop-rest-preserved c =
    let shorter = later_length c.loop-rest.rest.now c.in-len1-up.len_at_least in
    let before = c.loop-rest.invariant.long in
    let moved = c.move_to-at.ensures in
    let moves = rw (c.deref_mut.ensures.value, c.in_ok-make_room.ensures.kept) at moved.leads in
    let filled = c.in_ok-at.ensures in
    let fills = rw (row_back c.move_to-at.result c.make_room.new.out.len c.move_to-at.new.row c.deref_mut.result.now c.make_room.new.out.items moved.long c.deref_mut.ensures.len) at filled.leads in
    let now = filled.end in
    let edges = c.edges_of-edges.ensures in
    let small = edges.small_right in
    let edge : to_z w64 (of_z w64 c.edges_of-edges.result.right) ≡ c.edges_of-edges.result.right = omega (arith, ints, small) in
    let put = rw edge at c.must_put-put.ensures in
    let passed = rw edge at c.pass.ensures in
    record {
      written = places_next _ _ _ _ _ _ _ _ c.loop-rest.cursor c.fill_place.new.cursor _ _ _ _ _ c.in-len1-up.len_at_least c.loop-rest.invariant.written edges.right put filled.defined
          (at_place _ c.loop-rest.cursor c.move_to-at.new.cursor c.fill_place.new.cursor moved.h moved.v moved.font filled.cursor)
          (place_there c.args.fonts.now _ _ _ c.loop-rest.defined c.fill_place.new.defined c.loop-rest.cursor c.move_to-at.new.cursor c.fill_place.new.cursor _ _ (moves c.args.fonts.now) fills filled.cursor) passed;
      edges = edges_next c.args.fonts.now c.loop-rest.greatest _ c.loop-rest.rest.now _ _ _ c.in-len1-up.len_at_least edges.right edges.lower c.include.ensures ∙ c.loop-rest.invariant.edges;
      within = filled.room;
      long = omega (arith, shorter, before, moved.end, now);
    }

pub returns-clause-edges : goal.returns-clause-edges
returns-clause-edges c = sym (edges_end c.args.fonts.now c.loop-rest.greatest c.loop-rest.rest.now c.in_default.len_below) ∙ c.loop-rest.invariant.edges

pub returns-clause-leads : goal.returns-clause-leads
returns-clause-leads c = rw c.truncate.ensures.items (places_end _ _ _ _ _ _ _ _ c.in_default.len_below c.loop-rest.invariant.written).1
