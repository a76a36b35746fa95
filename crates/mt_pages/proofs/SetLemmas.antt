-- Pages that are set and placed one after another, with the first fault held back.
use Rattle.std.proofs.Common.{◌≡◌, ℕ, ◌+◌, ◌≤◌, false, List, [], ◌∷◌, ◌++◌, length, map, refl, sym, ◌∙◌, ap, subst, arith, ℤ, Option, Some, None, Result, Ok, Err, All, IfSome, nat_lt}
use Rattle.mt_pages.proofs.Common.{All-append, All-cons, All-nil, append-nil, count_by-le-length, ◌>>=◌, Token, SetValue, units_of, Place, max_dvi_pages, max_places, IsWritable, all_places, Formula, CanGoOn, GoesOn, IsBounded, IsNextPage, IsReadOf, left_to_read, pages_ended, pages_view, ReaderView, document_from, document_of, document_lines, document_overfull, document_pages, no_lines, page_lines, NotesOnly, PageLinesValue, source_overfull, source_pages, is_glyph_place, is_rule_place, IsPure, Origin, PureBy, Status, pure_err}
use Rattle.std.proofs.lemmas.Bool.Decides.{nat_tests}
use Rattle.std.proofs.lemmas.List.{append_assoc, length-append}
use Rattle.mt_dvi.specs.FileOf.{CanTake, IsFileOf}
use Rattle.mt_dvi.specs.Refusal.{refusal_of}
use Rattle.mt_dvi.specs.declared.file.DviFile.{DviFile}
use Rattle.mt_scaled.specs.declared.unit.Units.{Units}
use Rattle.mt_reader.specs.PageReading.{IsBeforeFault, fault_ahead}
use Rattle.mt_reader.specs.Refusals.{IsRefusal}
use Rattle.mt_reader.specs.SourceReading as reading
use Rattle.mt_reader.specs.Sources.{document_by, word_token}
use Rattle.mt_reader.specs.Documents.{NotLexed}
use Rattle.mt_reader.specs.declared.document_error.DocError.{DocError}
use Rattle.mt_reader.specs.declared.document_error.DocError.TheVariants.{Source, Outside, Expand, Read, Total, Pages, OutOfMemory as NoDocumentMemory}
use Rattle.mt_token.specs.Tokens.{Answer, Spanned, fault_of, source_tokens}
use Rattle.mt_token.specs.declared.token.TokenError.{TokenError}
use Rattle.mt_reader.specs.declared.page_reader.PageReader.{PageReader}
use Rattle.mt_pages.specs.inner.Texts.{AreCountsOf, HasRoom}
use Rattle.mt_pages.specs.declared.summaries.Counts.{Counts}
use Rattle.mt_pages.specs.inner.Added.{AreFit, CanAdd}
use Rattle.mt_pages.specs.inner.Placed.{PlacedValue, place_rest}
use Rattle.mt_pages.specs.inner.SetPages.{AreFormulasOf, ArePagesOf, GoesOnAfter, IsNextOf, IsReadAs, IsReadFrom, PlacesPage, SetsPage, IsTold, KeepsPlaces, count_places, end_of, is_setting, noted_at_end, overfull_after, rest_after, rest_pages, append_page}
use Rattle.mt_status.specs.Origins.{Told, refusal_origin}
use Rattle.mt_pages.proofs.PageRefusals.{few_refused}
use Rattle.mt_pages.specs.declared.pages.FirstFault.{FirstFault}
use Rattle.mt_pages.specs.declared.pages.FirstFault.TheVariants.{Nothing, Place as HeldPlace, Setting as HeldSetting}
use Rattle.mt_pages.specs.declared.pages.PageSetter.{PageSetter}
use Rattle.mt_pages.proofs.DocumentLemmas.{pages_start}
use Rattle.mt_pages.proofs.OverfullLemmas.{notes_only, overfull_all, overfull_refused, overfull_start}
use Rattle.mt_pages.proofs.PageLemmas.{all_places_length}

-- ---- the pages of a source

module _ (set : SetValue) (width : ℤ) (source : List ℕ) where
  -- nothing is read
  pub are_none : (s : PageSetter) → IsReadFrom set source [] s.reader → s.room ≡ max_places → s.held ≡ Nothing → ArePagesOf set width source [] s
  are_none s reader room held = record {
    read = [];
    reader = reader;
    is = λ rest.
        pages_start set width rest
        ∙ sym (ap (λ (h : FirstFault). rest_after set width [] s.room h rest) held ∙ ap (λ (n : ℕ). rest_pages set width (Ok (record { pages = []; room = n })) rest) room);
    overfull = λ rest.
        overfull_start set width rest
        ∙ sym (ap (λ (h : FirstFault). overfull_after set width s.room h rest) held ∙ ap (λ (n : ℕ). overfull_after set width n Nothing rest) room);
    told = subst IsTold (sym held) tt;
    few = omega arith;
    room = omega (arith, room);
  }

  with_none : (pages : List (List Place)) (places : Option (List Place)) (n : ℕ) → length pages ≤ n → length (append_page pages places) ≤ n + 1
  with_none pages None n few = omega (arith, few)
  with_none pages (Some places) n few = omega (arith, few, length-append pages (places ∷ []))

  with_room : (pages : List (List Place)) (places : Option (List Place)) (room new : ℕ) → length (all_places pages) + room ≡ max_places → count_places places + new ≡ room → length (all_places (append_page pages places)) + new ≡ max_places
  with_room pages None room new full less = omega (arith, full, less)
  with_room pages (Some places) room new full less = omega (arith, full, less, all_places_length pages places)

  -- one page more
  pub are_more : (pages : List (List Place)) (read : List (List Formula)) (page : List Formula) (old mid new : PageSetter) (places : Option (List Place))
      → ((rest : List (List Formula)) → document_pages set width (read ++ rest) ≡ rest_after set width pages old.room old.held rest)
      → ((rest : List (List Formula)) → document_overfull set width (read ++ rest) ≡ overfull_after set width old.room old.held rest) → IsTold old.held → length pages ≤ pages_ended old.reader → length (all_places pages) + old.room ≡ max_places
      → IsReadFrom set source (read ++ page ∷ []) mid.reader → pages_ended mid.reader ≡ pages_ended old.reader + 1 → KeepsPlaces old mid → SetsPage set width page mid new places → pages_view new.reader ≡ pages_view mid.reader
      → ArePagesOf set width source (append_page pages places) new
  are_more pages read page old mid new places is over told few room reader ended keeps done kept = record {
    read = read ++ page ∷ [];
    reader = subst (λ (v : ReaderView). IsReadAs (units_of set) (source_tokens source) (read ++ page ∷ []) v) (sym kept) reader;
    is = λ rest.
        ap (document_pages set width) (append_assoc read (page ∷ []) rest)
        ∙ (is (page ∷ rest)
        ∙ (sym (ap (λ (n : ℕ). rest_after set width pages n mid.held (page ∷ rest)) keeps.room ∙ ap (λ (h : FirstFault). rest_after set width pages old.room h (page ∷ rest)) keeps.held)
        ∙ done.is pages rest));
    overfull = λ rest.
        ap (document_overfull set width) (append_assoc read (page ∷ []) rest)
        ∙ (over (page ∷ rest)
        ∙ (sym (ap (λ (n : ℕ). overfull_after set width n mid.held (page ∷ rest)) keeps.room ∙ ap (λ (h : FirstFault). overfull_after set width old.room h (page ∷ rest)) keeps.held)
        ∙ done.overfull rest));
    told = done.told (subst IsTold (sym keeps.held) told);
    few = omega (arith, with_none pages places (pages_ended old.reader) few, ended, ap (λ (v : ReaderView). v.state.ended) kept);
    room = with_room pages places mid.room new.room (omega (arith, room, keeps.room)) done.room;
  }

  -- no page more
  pub are_all : (pages : List (List Place)) (s : PageSetter) (are : ArePagesOf set width source pages s) → document_of set source ≡ Ok are.read
      → source_pages set width source ≡ rest_after set width pages s.room s.held []
  unfolding source_pages
  are_all pages s are all =
      ap (λ (d : Result (List (List Formula)) Status). d >>= document_pages set width) all
      ∙ (ap (document_pages set width) (sym (append-nil are.read)) ∙ are.is [])

  end_by : (pages : List (List Place)) (room : ℕ) (held : FirstFault) (new : PageSetter) → IsTold held → source_pages set width source ≡ rest_after set width pages room held [] → IsNextOf set width source pages new (end_of held)
  end_by pages room Nothing new told is = is
  end_by pages room (HeldPlace fault) new told is = subst (λ (o : Origin). PureBy o (source_pages set width source ≡ Err fault.status)) (sym told.origin) is
  end_by pages room (HeldSetting status) new told is = subst (λ (o : Origin). PureBy o (source_pages set width source ≡ Err status)) (sym told.origin) is

  -- the end, or the fault that was held back
  pub next_end : (pages : List (List Place)) (s new : PageSetter) (result : Result (Option (List Place)) Status) (are : ArePagesOf set width source pages s) → document_of set source ≡ Ok are.read
      → result ≡ end_of s.held → IsNextOf set width source pages new result
  next_end pages s new result are all ends = subst (λ (r : Result (Option (List Place)) Status). IsNextOf set width source pages new r) (sym ends) (end_by pages s.room s.held new are.told (are_all pages s are all))

  -- the formula that is noted at the end
  pub next_overfull : (pages : List (List Place)) (s : PageSetter) (formula : Option ℕ) (are : ArePagesOf set width source pages s) → document_of set source ≡ Ok are.read
      → formula ≡ noted_at_end s.held → NotesOnly (source_overfull set width source) formula
  next_overfull pages s formula are all noted =
      notes_only (source_overfull set width source) formula
      (overfull_all set width source are.read s.room s.held all (ap (document_overfull set width) (sym (append-nil are.read)) ∙ are.overfull []) ∙ sym noted)

-- ---- a page that is not set

refused_rest : (set : SetValue) (width : ℤ) (placed : Result PlacedValue Status) (page : List Formula) (rest : List (List Formula)) (status : Status) → page_lines set width no_lines page ≡ Err status
    → rest_pages set width placed (page ∷ rest) ≡ Err status
refused_rest set width placed page rest status same =
    ap (λ (r : Result PageLinesValue Status). (r >>= (λ (lines : PageLinesValue). document_lines set width rest >>= (λ (more : List PageLinesValue). Ok (lines ∷ more)))) >>= place_rest placed) same

refused_after : (set : SetValue) (width : ℤ) (page : List Formula) (room : ℕ) (held : FirstFault) (status : Status) → is_setting held ≡ false → page_lines set width no_lines page ≡ Err status
    → (pages : List (List Place)) (rest : List (List Formula)) → rest_after set width pages room held (page ∷ rest) ≡ Err status
refused_after set width page room Nothing status others same pages rest = refused_rest set width (Ok (record { pages = pages; room = room })) page rest status same
refused_after set width page room (HeldPlace fault) status others same pages rest = refused_rest set width (Err fault.status) page rest status same
refused_after set width page room (HeldSetting s) status others same pages rest = absurd (cc)

-- its fault is held back, in place of that of a place
pub setting_held : (set : SetValue) (width : ℤ) (page : List Formula) (room : ℕ) (held : FirstFault) (status : Status) → is_setting held ≡ false → refusal_origin status ≡ Told
    → IsPure (page_lines set width no_lines page) (Err status) → PlacesPage set width page room held room (HeldSetting status) None
setting_held set width page room held status others told is = record {
  is = refused_after set width page room held status others (subst (λ (o : Origin). PureBy o (page_lines set width no_lines page ≡ Err status)) told is);
  overfull = overfull_refused set width page room held status (subst (λ (o : Origin). PureBy o (page_lines set width no_lines page ≡ Err status)) told is);
  told = λ before. few_refused set width page status is told;
  room = omega arith;
}

-- ---- the formulas of the next page

-- where nothing is read
pub start_read : (units : Units) (answer : Answer) (r : ReaderView) → ((list : List Spanned) → answer ≡ Ok list → reading.IsReadOf units (map word_token list) [] r) → reading.fault_ahead r ≡ fault_of answer → IsReadAs units answer [] r
start_read units (Ok list) r is fault = is list refl
start_read units (Err cause) r is fault = fault

-- a page more, or the document is read
abbrev IsNextRead : Units → Answer → List (List Formula) → ReaderView → Option (List Formula) → Type 0
IsNextRead units answer read new (Some page) = IsReadAs units answer (read ++ page ∷ []) new
IsNextRead units answer read new None = document_by units answer ≡ Ok read

next_read : (units : Units) (answer : Answer) (read : List (List Formula)) (old new : ReaderView) (page : Option (List Formula)) → ((tokens : List Token) → (read : List (List Formula)) → reading.IsReadOf units tokens read old → reading.IsNextPage units tokens read new (Ok page))
    → ((cause : TokenError) → reading.fault_ahead old ≡ Some cause → reading.IsBeforeFault cause new (Ok page)) → IsReadAs units answer read old → IsNextRead units answer read new page
next_read units (Ok list) read old new (Some page) is fault r = is (map word_token list) read r
next_read units (Ok list) read old new None is fault r = (is (map word_token list) read r).0
next_read units (Err cause) read old new (Some page) is fault r = fault cause r
next_read units (Err cause) read old new None is fault r = absurd (fault cause r)

formulas_by : (set : SetValue) (source : List ℕ) (read : List (List Formula)) (new : PageSetter) (page : Option (List Formula)) → IsNextRead (units_of set) (source_tokens source) read (pages_view new.reader) page → AreFormulasOf set source read new (Ok page)
formulas_by set source read new (Some page) is = is
formulas_by set source read new None is = ap document_from is

pub formulas_ok : (set : SetValue) (units : Units) (source : List ℕ) (read : List (List Formula)) (old new : PageSetter) (reader : PageReader) (page : Option (List Formula)) → units ≡ units_of set → reader ≡ new.reader
    → ((tokens : List Token) → (read : List (List Formula)) → IsReadOf units tokens read old.reader → IsNextPage units tokens read reader (Ok page))
    → ((cause : TokenError) → fault_ahead old.reader ≡ Some cause → IsBeforeFault cause reader (Ok page)) → IsReadFrom set source read old.reader → AreFormulasOf set source read new (Ok page)
formulas_ok set units source read old new reader page same kept is fault r =
    let at : (tokens : List Token) → (read : List (List Formula)) → IsReadOf (units_of set) tokens read old.reader → IsNextPage (units_of set) tokens read reader (Ok page) = subst (λ (u : Units). (tokens : List Token) → (read : List (List Formula)) → IsReadOf u tokens read old.reader → IsNextPage u tokens read reader (Ok page)) same is in
    formulas_by set source read new page
    (subst (λ (x : PageReader). IsNextRead (units_of set) (source_tokens source) read (pages_view x) page) kept (next_read (units_of set) (source_tokens source) read (pages_view old.reader) (pages_view reader) page at fault r))

fault_refused : (cause : TokenError) (e : DocError) → reading.IsFaultOf cause e → IsRefusal e (Err (NotLexed cause))
fault_refused cause (Source x) same = ap (λ (c : TokenError). Err (NotLexed c)) (sym same)
fault_refused cause (Outside n place x) same = absurd same
fault_refused cause (Expand n x) same = absurd same
fault_refused cause (Read n x) same = absurd same
fault_refused cause (Total n count) same = absurd same
fault_refused cause (Pages count) same = absurd same
fault_refused cause NoDocumentMemory same = tt

-- the document is refused
pub refused_read : (units : Units) (answer : Answer) (read : List (List Formula)) (old new : ReaderView) (e : DocError) → ((tokens : List Token) → (read : List (List Formula)) → reading.IsReadOf units tokens read old → reading.IsNextPage units tokens read new (Err e))
    → ((cause : TokenError) → reading.fault_ahead old ≡ Some cause → reading.IsBeforeFault cause new (Err e)) → IsReadAs units answer read old → IsRefusal e (document_by units answer)
refused_read units (Ok list) read old new e is fault r = is (map word_token list) read r
refused_read units (Err cause) read old new e is fault r = fault_refused cause e (fault cause r)

pub kept_at : (set : SetValue) (w v : ℤ) (old new : PageSetter) → w ≡ v → ((source : List ℕ) → (pages : List (List Place)) → ArePagesOf set w source pages old → ArePagesOf set w source pages new)
    → (source : List ℕ) → (pages : List (List Place)) → ArePagesOf set v source pages old → ArePagesOf set v source pages new
kept_at set w v old new e is = subst (λ (x : ℤ). (source : List ℕ) → (pages : List (List Place)) → ArePagesOf set x source pages old → ArePagesOf set x source pages new) e is

-- a page is read and set
pub are_set : (set : SetValue) (w v : ℤ) (source : List ℕ) (pages : List (List Place)) (page : List Formula) (old mid new : PageSetter) (found : Option (List Formula)) (got places : Option (List Place)) → w ≡ v
    → ArePagesOf set v source pages old → found ≡ Some page → ((source : List ℕ) → (read : List (List Formula)) → IsReadFrom set source read old.reader → AreFormulasOf set source read mid (Ok found))
    → GoesOn old.reader mid.reader (Ok found) → KeepsPlaces old mid → SetsPage set w page mid new got → got ≡ places → pages_view new.reader ≡ pages_view mid.reader → ArePagesOf set v source (append_page pages places) new
are_set set w v source pages page old mid new found got places e are some formulas more keeps done is kept =
    let reader : IsReadFrom set source (are.read ++ page ∷ []) mid.reader = subst (λ (o : Option (List Formula)). AreFormulasOf set source are.read mid (Ok o)) some (formulas source are.read are.reader) in
    let bounded : IsBounded old.reader mid.reader page = subst (λ (o : Option (List Formula)). GoesOn old.reader mid.reader (Ok o)) some more in
    let at : SetsPage set v page mid new places = subst (λ (x : ℤ). SetsPage set x page mid new places) e (subst (λ (o : Option (List Place)). SetsPage set w page mid new o) is done) in
    are_more set v source pages are.read page old mid new places are.is are.overfull are.told are.few are.room reader bounded.ended keeps at kept

pub record GoesOnIn (first new : PageSetter) : Type 0 where
  pub more : CanGoOn new.reader
  pub falls : left_to_read new.reader ≤ left_to_read first.reader

pub go_set : (first old mid new : PageSetter) (page : List Formula) (found : Option (List Formula)) → found ≡ Some page → GoesOn old.reader mid.reader (Ok found) → pages_view new.reader ≡ pages_view mid.reader → left_to_read old.reader ≤ left_to_read first.reader
    → GoesOnIn first new
go_set first old mid new page found some more kept falls =
    let bounded : IsBounded old.reader mid.reader page = subst (λ (o : Option (List Formula)). GoesOn old.reader mid.reader (Ok o)) some more in
    record {
      more = subst reading.CanGoOn (sym kept) bounded.more;
      falls = omega (arith, bounded.falls, falls, ap reading.left_to_read kept);
    }

-- the source has no document
pub source_err : (set : SetValue) (width : ℤ) (source : List ℕ) (status : Status) → IsPure (document_of set source) (Err status) → IsPure (source_pages set width source) (Err status)
unfolding source_pages
source_err set width source status is = pure_err (document_of set source) (document_pages set width) status is

pub next_none : (set : SetValue) (w v : ℤ) (source : List ℕ) (pages : List (List Place)) (new : PageSetter) (found : Option (List Place)) → w ≡ v → found ≡ None → IsNextOf set w source pages new (Ok found) → source_pages set v source ≡ Ok pages
next_none set w v source pages new found e none is =
    subst (λ (x : ℤ). source_pages set x source ≡ Ok pages) e (subst (λ (o : Option (List Place)). IsNextOf set w source pages new (Ok o)) none is)

pub next_refused : (set : SetValue) (w v : ℤ) (source : List ℕ) (status : Status) → w ≡ v → IsPure (source_pages set w source) (Err status) → IsPure (source_pages set v source) (Err status)
next_refused set w v source status e is = subst (λ (x : ℤ). IsPure (source_pages set x source) (Err status)) e is

pub next_noted : (set : SetValue) (w v : ℤ) (source : List ℕ) (formula : Option ℕ) → w ≡ v → NotesOnly (source_overfull set w source) formula → NotesOnly (source_overfull set v source) formula
next_noted set w v source formula e is = subst (λ (x : ℤ). NotesOnly (source_overfull set x source) formula) e is

-- ---- the pages that were added

pub none_fit : (set : SetValue) → AreFit set []
none_fit set = record { writable = All-nil (λ (page : List Place). All (IsWritable set) page); few = omega arith; few_places = omega arith }

-- the pages that were handed out were added
pub record AddedSoFar {S : Type 0} (set : SetValue) (width : ℤ) (source : List ℕ) (Has : List (List Place) → S → Type 0) (s : PageSetter) (sink : S) : Type 0 where
  pub pages : List (List Place)
  pub are : ArePagesOf set width source pages s
  pub fit : AreFit set pages
  pub has : Has pages sink

-- a page that is handed out is the next one, and can be added
pub record IsHandedOut (set : SetValue) (width : ℤ) (source : List ℕ) (pages : List (List Place)) (places : List Place) (s : PageSetter) : Type 0 where
  pub are : ArePagesOf set width source (pages ++ places ∷ []) s
  pub writable : All (IsWritable set) places
  pub fit : AreFit set (pages ++ places ∷ [])
  pub more : CanGoOn s.reader

pub handed_out : (set : SetValue) (width : ℤ) (source : List ℕ) (pages : List (List Place)) (places : List Place) (old new : PageSetter) (found : Option (List Place)) → found ≡ Some places → AreFit set pages
    → IsNextOf set width source pages new (Ok found) → IfSome found (λ page. GoesOnAfter set old new page) → IsHandedOut set width source pages places new
handed_out set width source pages places old new found some fit next goes =
    let every = λ (page : List Place). All (IsWritable set) page in
    let are : ArePagesOf set width source (pages ++ places ∷ []) new = subst (λ (o : Option (List Place)). IsNextOf set width source pages new (Ok o)) some next in
    let on : GoesOnAfter set old new places = subst (λ (o : Option (List Place)). IfSome o (λ page. GoesOnAfter set old new page)) some goes in
    record {
      are = are;
      writable = on.writable;
      fit = record {
        writable = All-append every pages (places ∷ []) fit.writable (All-cons every places [] on.writable (All-nil every));
        few = omega (arith, are.few, on.pages);
        few_places = omega (arith, are.room);
      };
      more = on.more;
    }

-- pages that can be added are not refused
pub fit_none_refused : (set : SetValue) (pages : List (List Place)) → AreFit set pages → refusal_of pages ≡ None
fit_none_refused set pages fit =
    let pages_in : nat_lt max_dvi_pages (length pages) ≡ false = grind (arith, nat_tests, fit.few) in
    let places_in : nat_lt max_places (length (all_places pages)) ≡ false = grind (arith, nat_tests, fit.few_places) in
    rw (pages_in, places_in) refl

-- a page more can be written
pub can_take : (set : SetValue) (file : DviFile) (page : List Place) → CanAdd set (λ (pages : List (List Place)) (f : DviFile). IsFileOf set pages f) file page → CanTake set file page
can_take set file page can =
    let more = all_places_length can.pages page in
    record {
      pages = can.pages;
      file_of = can.has;
      can = can.writable;
      few_pages = omega (arith, can.fit.few, length-append can.pages (page ∷ []));
      few_places = omega (arith, more, can.fit.few_places);
    }

-- and counted
pub has_room : (set : SetValue) (counts : Counts) (page : List Place) → CanAdd set AreCountsOf counts page → HasRoom counts
has_room set counts page can =
    let more = all_places_length can.pages page in
    record {
      pages = omega (arith, can.has.count, can.fit.few, length-append can.pages (page ∷ []));
      glyphs = omega (arith, can.has.glyphs, count_by-le-length is_glyph_place (all_places can.pages), more, can.fit.few_places);
      rules = omega (arith, can.has.rules, count_by-le-length is_rule_place (all_places can.pages), more, can.fit.few_places);
    }
