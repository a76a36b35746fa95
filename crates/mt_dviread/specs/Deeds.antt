-- What an operation does to the pages of a file (`Changes`), and which deed that is (`deed_of`).
use Rattle.std.specs.Prelude.{◌≡◌, ℕ, ◌+◌, List, [], ◌∷◌, ◌++◌, map, Option, Some, None, ◌⊎◌, ◌≤◌, ◌<◌, ◌^◌, nat_abs, false, IfSome}
use Rattle.mt_box.specs.declared.place.Place.{Place}
use Rattle.mt_box.specs.declared.place.Place.TheVariants.{Glyph, Rule}
use Rattle.mt_dvi.specs.Codes.{Operation, Bop, Eop, Define, Select}
use Rattle.mt_dvi.specs.File.{File, Page, Phase, InPage, BetweenPages, AfterPost}
use Rattle.mt_dvi.specs.Machine.{WrittenPlace, is_far}
use Rattle.mt_dviread.specs.declared.deed.Deed.{Deed}
use Rattle.mt_dviread.specs.declared.deed.Mark.{Mark}
use Rattle.mt_dviread.specs.declared.deed.Deed.TheVariants.{Passes, BeginsPage, EndsPage, Selects, Performs}

abbrev pub deed_in_page : Operation → Option Place → Deed
deed_in_page Eop place = EndsPage
deed_in_page (Define d) place = Passes
deed_in_page (Select number) place = Selects
deed_in_page op place = Performs place

abbrev pub deed_between : Operation → Deed
deed_between (Bop counts pointer) = BeginsPage
deed_between op = Passes

-- the deed of an operation that fills this place, in this part of the file
abbrev pub deed_of : Phase → Operation → Option Place → Deed
deed_of InPage op place = deed_in_page op place
deed_of BetweenPages op place = deed_between op
deed_of phase op place = Passes

abbrev pub place_filled : Deed → Option Place
place_filled (Performs place) = place
place_filled deed = None

-- the deed is that of this operation in this part of the file
abbrev pub IsDeed : Deed → Phase → Operation → Type 0
IsDeed deed phase op = deed ≡ deed_of phase op (place_filled deed)

abbrev pub places_of_page : Page → List Place
places_of_page page = map (λ (written : WrittenPlace). written.place) page.places

abbrev pub places_with : List Place → Option Place → List Place
places_with places None = places
places_with places (Some place) = places ++ place ∷ []

abbrev pub count_with : ℕ → Option Place → ℕ
count_with count None = count
count_with count (Some place) = count + 1

-- a place within the range of coordinates; the width of a rule has four bytes
abbrev pub IsNear : Place → Type 0
IsNear (Glyph n code h v) = (is_far h ≡ false) × (is_far v ≡ false)
IsNear (Rule h v height width) = (is_far h ≡ false) × (is_far v ≡ false) × (nat_abs width ≤ 2 ^ 31)

-- the edges of a place are small
abbrev pub IsSmallMark : Mark → Type 0
IsSmallMark mark = (nat_abs mark.right < 2 ^ 32) × (nat_abs mark.lower < 2 ^ 32)

abbrev pub IsNearDeed : Deed → Type 0
IsNearDeed deed = IfSome (place_filled deed) IsNear

-- the pages that have ended, after a deed
abbrev pub pages_after : Deed → List Page → Page → List Page
pages_after EndsPage pages page = pages ++ page ∷ []
pages_after deed pages page = pages

-- the places of the page that has begun, after a deed
abbrev pub places_after : Deed → List Place → List Place
places_after BeginsPage places = []
places_after EndsPage places = []
places_after (Performs place) places = places_with places place
places_after deed places = places

-- what a deed changes of a file's pages
pub record Changes (deed : Deed) (file next : File) : Type 0 where
  pub pages : next.pages ≡ pages_after deed file.pages file.page
  pub places : places_of_page next.page ≡ places_after deed (places_of_page file.page)
  pub count : next.place_count ≡ count_with file.place_count (place_filled deed)
  -- only in a page, or after its bop, has a page begun
  pub begun : next.phase ≡ InPage → (deed ≡ BeginsPage) ⊎ (file.phase ≡ InPage)
  -- once the pages have ended, the offset of post stays
  pub posted : next.phase ≡ AfterPost → (next.post_at ≡ file.at) ⊎ ((file.phase ≡ AfterPost) × (next.post_at ≡ file.post_at))
