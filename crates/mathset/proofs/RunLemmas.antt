-- How a run ends: its steps, then its product or its refusal.
use Rattle.std.proofs.Common.{◌≡◌, ℕ, ◌<◌, List, [], ◌∷◌, length, Bool, true, false, refl, sym, ◌∙◌, ap, subst, arith, inl, inr}
use Rattle.std.specs.Prelude.{Option, Some, None, Result, Ok, Err, Contains, ◌⊎◌, nat_lt, if◌then◌else◌}
use Rattle.std.proofs.lemmas.Bool.Decides.{nat_tests}
use Rattle.mt_outside.specs.Counts.{IsSteady, Rose}
use Rattle.mt_outside.specs.Files.{content}
use Rattle.mt_outside.specs.declared.files.Held.{Held}
use Rattle.mt_family.specs.SetValue.{SetValue}
use Rattle.mt_box.specs.declared.place.Place.{Place}
use Rattle.mt_dvi.specs.File.{Fault, pages_of}
use Rattle.mt_dvi.specs.Written.{Written}
use Rattle.mt_dvi.proofs.WholeFile.{reads_back}
use Rattle.mathset.specs.Answer.{steps, steps_by}
use Rattle.mathset.specs.DviSteps.{dvi_by, dvi_listing, dvi_step}
use Rattle.mathset.specs.FontSteps.{font_set_step}
use Rattle.mt_dvi.specs.Limits.{max_dvi}
use Rattle.mt_pages.specs.Listing.{listing}
use Rattle.mathset.specs.Reads.{file_of}
use Rattle.mathset.specs.Outcome.{Outcome, outcome_after, plain}
use Rattle.mt_words.specs.Request.{request_of}
use Rattle.mt_words.specs.RequestValues.{DviFilesValue, DviPagesValue, DviValue, SampleValue, SourceValue}
use Rattle.mathset.specs.Steps.{gen_answer, gen_steps, join_steps, pick_steps, read_steps, typeset_steps}
use Rattle.mt_pages.specs.Typeset.{TypesetValue}
use Rattle.mathset.specs.Ends.{EndsAs, EndsOrIsCut, GotLean, GotPart, GotWhole, IsQuiet, IsToldRefusal, ListsPages, WritesWhole}
use Rattle.mathset.specs.SetEnds.{GotFile, GotLeanFile, SetsAs, WritesLean}
use Rattle.mathset.specs.inner.Runs.{EndLeaves, IsRun, LeavesOutput, WritesWholeLean}
use Rattle.mathset.specs.inner.Steps.{CabinetValue, IsMade, IsStep, text_of}
use Rattle.mathset.proofs.MadeLemmas.{pure_made}
use Rattle.mt_status.specs.Origins.{IsPure}
use Rattle.mathset.specs.Product.{Product, File, Text}
use Rattle.mt_words.specs.declared.request.Request.{Request}
use Rattle.mt_words.specs.declared.request.Request.TheVariants.{Join, Pick, Read, Set}
use Rattle.mt_status.specs.declared.status.Status.{Status}
use Rattle.mt_status.specs.declared.status.Status.TheVariants.{Done, BadWords, ReadFault, TooLong, WriteFault, FontList, BadTfm, BadFamily, BadSource, BadFormula, Budget, MissingFamily, MissingChar, SmartLigature, Overflow, TooTall, TooDeep, TooMuch, BadDvi, BadPick, MagClash, BadFile, OutOfMemory}

-- a status is Done, a fault, lack of memory, or a refusal that the words and the files give
by_status : (P : Status → Type 0) → P Done → ((name : List ℕ) → P (ReadFault name)) → ((count : ℕ) → P (WriteFault count)) → P OutOfMemory
    → ((status : Status) → IsToldRefusal status → IsQuiet status → P status) → (status : Status) → P status
by_status P done lost cut memory told Done = done
by_status P done lost cut memory told BadWords = told BadWords tt tt
by_status P done lost cut memory told (ReadFault name) = lost name
by_status P done lost cut memory told (TooLong name) = told (TooLong name) tt tt
by_status P done lost cut memory told (WriteFault count) = cut count
by_status P done lost cut memory told (FontList line cause) = told (FontList line cause) tt tt
by_status P done lost cut memory told (BadTfm font cause) = told (BadTfm font cause) tt tt
by_status P done lost cut memory told (BadFamily fam size cause) = told (BadFamily fam size cause) tt tt
by_status P done lost cut memory told (BadSource offset cause) = told (BadSource offset cause) tt tt
by_status P done lost cut memory told (BadFormula n token cause) = told (BadFormula n token cause) tt tt
by_status P done lost cut memory told (Budget n) = told (Budget n) tt tt
by_status P done lost cut memory told (MissingFamily n fam size) = told (MissingFamily n fam size) tt tt
by_status P done lost cut memory told (MissingChar n fam size code) = told (MissingChar n fam size code) tt tt
by_status P done lost cut memory told (SmartLigature n fam size first second) = told (SmartLigature n fam size first second) tt tt
by_status P done lost cut memory told (Overflow n value) = told (Overflow n value) tt tt
by_status P done lost cut memory told (TooTall n count) = told (TooTall n count) tt tt
by_status P done lost cut memory told (TooDeep n token) = told (TooDeep n token) tt tt
by_status P done lost cut memory told (TooMuch kind count) = told (TooMuch kind count) tt tt
by_status P done lost cut memory told (BadDvi offset cause) = told (BadDvi offset cause) tt tt
by_status P done lost cut memory told (BadPick page) = told (BadPick page) tt tt
by_status P done lost cut memory told (MagClash file) = told (MagClash file) tt tt
by_status P done lost cut memory told (BadFile file offset cause) = told (BadFile file offset cause) tt tt
by_status P done lost cut memory told OutOfMemory = memory

not_below : (before now : ℕ) → now ≡ before → before < now → ⊥
not_below before now same below = omega (arith, same, below)

-- the product is to be written
ok_run : {C K : Type 0} (holds : C → Option (List Held)) (reads : C → ℕ) (last : C → Option (List ℕ)) (written : K → Option (List ℕ)) (writes : K → ℕ) (steps : List Held → Outcome Product)
    (cabinet cabinet' : C) (out out' : K) (product : Product) (status : Status) → IsStep holds reads last cabinet cabinet' steps (Ok product)
    → LeavesOutput written writes product out out' status → IsRun holds reads last written writes steps cabinet cabinet' out out' status
ok_run holds reads last written writes steps cabinet cabinet' out out' product Done step end = record {
  refused = λ files told no. absurd no;
  done = λ is. record { gives = record { product = product; is = step.origin.1 }; got = end.1 };
  cut = λ count is. absurd (cc);
  lost = λ name is. absurd (cc);
  asked = λ name files is told. absurd (cc);
  reads_counted = λ grew. absurd (omega (arith, grew, step.origin.0));
  writes_counted = λ grew. absurd (omega (arith, grew, end.0));
  quiet = λ no. absurd no;
  kept = step.kept;
}
ok_run holds reads last written writes steps cabinet cabinet' out out' product (WriteFault count) step end = record {
  refused = λ files told no. absurd no;
  done = λ is. absurd (cc);
  cut = λ n is.
      let same : count ≡ n = cc in
      (end.0, record { gives = record { product = product; is = step.origin.1 }; got = subst (λ (k : ℕ). GotPart product k (written out) (written out')) same end.1 });
  lost = λ name is. absurd (cc);
  asked = λ name files is told. absurd (cc);
  reads_counted = λ grew. absurd (omega (arith, grew, step.origin.0));
  writes_counted = λ grew. tt;
  quiet = λ no. absurd no;
  kept = step.kept;
}
ok_run holds reads last written writes steps cabinet cabinet' out out' product status step end = absurd end

-- the refusal is the status
err_run : {C K : Type 0} (holds : C → Option (List Held)) (reads : C → ℕ) (last : C → Option (List ℕ)) (written : K → Option (List ℕ)) (writes : K → ℕ) (steps : List Held → Outcome Product)
    (cabinet cabinet' : C) (out out' : K) (status : Status) → IsStep {T = Product} holds reads last cabinet cabinet' steps (Err status)
    → out' ≡ out → IsRun holds reads last written writes steps cabinet cabinet' out out' status
err_run holds reads last written writes steps cabinet cabinet' out out' Done step same = absurd step.origin
err_run holds reads last written writes steps cabinet cabinet' out out' BadWords step same = absurd step.origin
err_run holds reads last written writes steps cabinet cabinet' out out' (WriteFault count) step same = absurd step.origin
err_run holds reads last written writes steps cabinet cabinet' out out' (ReadFault name) step same = record {
  refused = λ files told no. absurd no;
  done = λ is. absurd (cc);
  cut = λ count is. absurd (cc);
  lost = λ n is.
      let word : name ≡ n = cc in
      (step.origin.0, step.origin.1 ∙ ap (λ (w : List ℕ). Some w) word);
  asked = λ n files is told.
      let word : name ≡ n = cc in
      subst (λ (w : List ℕ). Contains (steps files).asked w) word (step.origin.2 files told);
  reads_counted = λ grew. tt;
  writes_counted = λ grew. absurd (not_below (writes out) (writes out') (ap writes same) grew);
  quiet = λ quiet. same;
  kept = step.kept;
}
err_run holds reads last written writes steps cabinet cabinet' out out' OutOfMemory step same = record {
  refused = λ files told no. absurd no;
  done = λ is. absurd (cc);
  cut = λ count is. absurd (cc);
  lost = λ name is. absurd (cc);
  asked = λ name files is told. absurd (cc);
  reads_counted = λ grew. tt;
  writes_counted = λ grew. absurd (not_below (writes out) (writes out') (ap writes same) grew);
  quiet = λ quiet. same;
  kept = step.kept;
}
err_run holds reads last written writes steps cabinet cabinet' out out' status step same = record {
  refused = λ files told refusal. step.origin.1 files told;
  done = λ is. absurd (cc);
  cut = λ count is. absurd (cc);
  lost = λ name is. absurd (cc);
  asked = λ name files is told. absurd (cc);
  reads_counted = λ grew. absurd (omega (arith, grew, step.origin.0));
  writes_counted = λ grew. absurd (not_below (writes out) (writes out') (ap writes same) grew);
  quiet = λ quiet. same;
  kept = step.kept;
}

-- steps, and the end that what they make comes to
pub is_run : {C K : Type 0} (holds : C → Option (List Held)) (reads : C → ℕ) (last : C → Option (List ℕ)) (written : K → Option (List ℕ)) (writes : K → ℕ) (steps : List Held → Outcome Product)
    (cabinet cabinet' : C) (out out' : K) (made : Result (List ℕ) Status) (status : Status) → IsMade holds reads last cabinet cabinet' steps made
    → EndLeaves written writes made out out' status → IsRun holds reads last written writes steps cabinet cabinet' out out' status
is_run holds reads last written writes steps cabinet cabinet' out out' (Ok bytes) status made end =
    ok_run holds reads last written writes steps cabinet cabinet' out out' made.product status made.step (end made.product made.made made.lean)
is_run holds reads last written writes steps cabinet cabinet' out out' (Err refusal) status step end =
    subst (λ (s : Status). IsRun holds reads last written writes steps cabinet cabinet' out out' s) (sym end.0)
    (err_run holds reads last written writes steps cabinet cabinet' out out' refusal step end.1)

-- steps refuse no words
pub not_words : {C K : Type 0} (holds : C → Option (List Held)) (reads : C → ℕ) (last : C → Option (List ℕ)) (written : K → Option (List ℕ)) (writes : K → ℕ) (steps : List Held → Outcome Product)
    (cabinet cabinet' : C) (out out' : K) (made : Result (List ℕ) Status) (status : Status) → IsMade holds reads last cabinet cabinet' steps made
    → EndLeaves written writes made out out' status → status ≡ BadWords → ⊥
not_words holds reads last written writes steps cabinet cabinet' out out' (Ok bytes) status made end is =
    subst (λ (s : Status). LeavesOutput written writes made.product out out' s) is (end made.product made.made made.lean)
not_words holds reads last written writes steps cabinet cabinet' out out' (Err refusal) status step end is =
    (subst (λ (s : Status). IsStep {T = Product} holds reads last cabinet cabinet' steps (Err s)) (sym end.0 ∙ is) step).origin

-- words that are none of the commands
pub bad_words_run : {C K : Type 0} (holds : C → Option (List Held)) (reads : C → ℕ) (last : C → Option (List ℕ)) (written : K → Option (List ℕ)) (writes : K → ℕ) (words : List (List ℕ))
    (cabinet : C) (out : K) → request_of words ≡ None → IsRun holds reads last written writes (steps words) cabinet cabinet out out BadWords
bad_words_run holds reads last written writes words cabinet out none = record {
  refused = λ files told refusal. ap (λ (w : Option Request). (steps_by w files).result) none;
  done = λ is. absurd (cc);
  cut = λ count is. absurd (cc);
  lost = λ name is. absurd (cc);
  asked = λ name files is told. absurd (cc);
  reads_counted = λ grew. absurd (omega (arith, grew));
  writes_counted = λ grew. absurd (omega (arith, grew));
  quiet = λ quiet. refl;
  kept = refl;
}

-- lack of memory while the words are read
pub no_words_run : {C K : Type 0} (holds : C → Option (List Held)) (reads : C → ℕ) (last : C → Option (List ℕ)) (written : K → Option (List ℕ)) (writes : K → ℕ) (steps : List Held → Outcome Product)
    (cabinet : C) (out : K) → IsRun holds reads last written writes steps cabinet cabinet out out OutOfMemory
no_words_run holds reads last written writes steps cabinet out = record {
  refused = λ files told no. absurd no;
  done = λ is. absurd (cc);
  cut = λ count is. absurd (cc);
  lost = λ name is. absurd (cc);
  asked = λ name files is told. absurd (cc);
  reads_counted = λ grew. tt;
  writes_counted = λ grew. absurd (omega (arith, grew));
  quiet = λ quiet. refl;
  kept = refl;
}

same_product : (p q : Product) → (let r : Result Product Status = Ok p in r) ≡ Ok q → p ≡ q
same_product p q is = cc

got_whole : {product : Product} {before now : Option (List ℕ)} → GotLean product before now → GotWhole product before now
got_whole got = record { bytes = got.bytes; made = got.made; appended = got.appended }

got_file : {t : TypesetValue} {before now : Option (List ℕ)} → GotWhole (File t) before now → GotFile t before now
got_file got = record { bytes = got.bytes; written = got.made; appended = got.appended }

got_lean_file : {t : TypesetValue} {before now : Option (List ℕ)} → GotLean (File t) before now → GotLeanFile t before now
got_lean_file got = record { bytes = got.bytes; written = got.made; lean = got.lean; appended = got.appended }

-- a product that is lean is a product
pub done : (holds : Option (List Held)) (steps : List Held → Outcome Product) (before now : Option (List ℕ)) → WritesWholeLean holds steps before now
    → WritesWhole holds steps before now
done holds steps before now whole = record { gives = whole.gives; got = got_whole whole.got }

lean_by : (r : Result TypesetValue Status) (asked : List (List ℕ)) (product : Product) (before now : Option (List ℕ))
    → (outcome_after r asked (λ t. plain (Ok (File t)))).result ≡ Ok product → GotLean product before now → WritesLean r before now
lean_by (Ok t) asked product before now is got = got_lean_file (subst (λ (p : Product). GotLean p before now) (sym (same_product (File t) product is)) got)
lean_by (Err refusal) asked product before now is got = absurd (cc)

-- words that ask for a source to be set, whose file is written
pub lean : (words : List (List ℕ)) (w : SourceValue) (files : List Held) (holds : Option (List Held)) (before now : Option (List ℕ)) → request_of words ≡ Some (Set w)
    → holds ≡ Some files → WritesWholeLean holds (steps words) before now → WritesLean (typeset_steps w files).result before now
lean words w files holds before now is told whole =
    lean_by (typeset_steps w files).result (typeset_steps w files).asked whole.gives.product before now
    (subst (λ (r : Option Request). (steps_by r files).result ≡ Ok whole.gives.product) is (whole.gives.is files told)) whole.got

not_both : (before now : ℕ) → IsSteady before now → Rose before now → ⊥
not_both before now steady rose = omega (arith, steady, rose.1)

-- a run over a cabinet that tells its files, of which no call failed
pub ends_or_is_cut : {C K : Type 0} (holds : C → Option (List Held)) (reads : C → ℕ) (last : C → Option (List ℕ)) (written : K → Option (List ℕ)) (writes : K → ℕ) (steps : List Held → Outcome Product)
    (cabinet cabinet' : C) (out out' : K) (status : Status) → IsRun holds reads last written writes steps cabinet cabinet' out out' status
    → (files : List Held) → holds cabinet ≡ Some files → IsSteady (reads cabinet) (reads cabinet')
    → (status ≡ OutOfMemory) ⊎ EndsOrIsCut (steps files).result (writes out) (writes out') (written out) (written out') status
ends_or_is_cut holds reads last written writes steps cabinet cabinet' out out' status run files told read =
    by_status
    (λ s. IsRun holds reads last written writes steps cabinet cabinet' out out' s → (s ≡ OutOfMemory) ⊎ EndsOrIsCut (steps files).result (writes out) (writes out') (written out) (written out') s)
    (λ run.
    let whole = run.done refl in
    inr (inl (subst (λ (r : Result Product Status). EndsAs r (written out) (written out') Done) (sym (whole.gives.is files told)) (refl, got_whole whole.got))))
    (λ name run. absurd (not_both (reads cabinet) (reads cabinet') read (run.lost name refl).0))
    (λ count run.
    let cut = run.cut count refl in
    inr (inr (record { product = cut.1.gives.product; is = cut.1.gives.is files told; count = count; cut = refl; rose = cut.0; got = cut.1.got })))
    (λ run. inl refl)
    (λ s refusal quiet run.
    inr (inl (subst (λ (r : Result Product Status). EndsAs r (written out) (written out') s) (sym (run.refused files told refusal)) (refl, ap written (run.quiet quiet)))))
    status run

uncut : (answer : Result Product Status) (faults faults' : ℕ) (before now : Option (List ℕ)) (status : Status) → IsSteady faults faults' → (status ≡ OutOfMemory) ⊎ EndsOrIsCut answer faults faults' before now status
    → (status ≡ OutOfMemory) ⊎ EndsAs answer before now status
uncut answer faults faults' before now status wrote (inl memory) = inl memory
uncut answer faults faults' before now status wrote (inr (inl ends)) = inr ends
uncut answer faults faults' before now status wrote (inr (inr cut)) = absurd (not_both faults faults' wrote cut.rose)

-- and no call of the output failed
pub ends : {C K : Type 0} (holds : C → Option (List Held)) (reads : C → ℕ) (last : C → Option (List ℕ)) (written : K → Option (List ℕ)) (writes : K → ℕ) (steps : List Held → Outcome Product)
    (cabinet cabinet' : C) (out out' : K) (status : Status) → IsRun holds reads last written writes steps cabinet cabinet' out out' status
    → (files : List Held) → holds cabinet ≡ Some files → IsSteady (reads cabinet) (reads cabinet') → IsSteady (writes out) (writes out')
    → (status ≡ OutOfMemory) ⊎ EndsAs (steps files).result (written out) (written out') status
ends holds reads last written writes steps cabinet cabinet' out out' status run files told read wrote =
    uncut (steps files).result (writes out) (writes out') (written out) (written out') status wrote
    (ends_or_is_cut holds reads last written writes steps cabinet cabinet' out out' status run files told read)

-- `gen` ends as over a cabinet that tells that it holds no file
pub gen_ends : {K : Type 0} (written : K → Option (List ℕ)) (writes : K → ℕ) (w : SampleValue) (out out' : K) (made : Result (List ℕ) Status) (status : Status)
    → IsPure (gen_answer w) (text_of made) → EndLeaves written writes made out out' status
    → (status ≡ OutOfMemory) ⊎ EndsOrIsCut (gen_answer w) (writes out) (writes out') (written out) (written out') status
gen_ends written writes w out out' made status pure end =
    let none : CabinetValue = record { holds = Some []; faults = 0; lost = None } in
    ends_or_is_cut {C = CabinetValue} (λ v. v.holds) (λ v. v.faults) (λ v. v.lost) written writes (gen_steps w) none none out out' status
    (is_run {C = CabinetValue} (λ v. v.holds) (λ v. v.faults) (λ v. v.lost) written writes (gen_steps w) none none out out' made status (pure_made none (gen_answer w) made pure) end)
    [] refl (omega arith)

sets_by : (r : Result TypesetValue Status) (asked : List (List ℕ)) (before now : Option (List ℕ)) (status : Status)
    → EndsAs (outcome_after r asked (λ t. plain (Ok (File t)))).result before now status → SetsAs r before now status
sets_by (Ok t) asked before now status ends = (ends.0, got_file ends.1)
sets_by (Err refusal) asked before now status ends = ends

-- words that ask for a source to be set
pub sets : (words : List (List ℕ)) (w : SourceValue) (files : List Held) (before now : Option (List ℕ)) (status : Status) → request_of words ≡ Some (Set w)
    → (status ≡ OutOfMemory) ⊎ EndsAs (steps words files).result before now status → (status ≡ OutOfMemory) ⊎ SetsAs (typeset_steps w files).result before now status
sets words w files before now status is (inl memory) = inl memory
sets words w files before now status is (inr ends) =
    inr (sets_by (typeset_steps w files).result (typeset_steps w files).asked before now status
    (subst (λ (r : Option Request). EndsAs (steps_by r files).result before now status) is ends))

-- words that ask for pages to be picked
pub picks : (words : List (List ℕ)) (w : DviPagesValue) (files : List Held) (before now : Option (List ℕ)) (status : Status) → request_of words ≡ Some (Pick w)
    → (status ≡ OutOfMemory) ⊎ EndsAs (steps words files).result before now status → (status ≡ OutOfMemory) ⊎ EndsAs (pick_steps w files).result before now status
picks words w files before now status is (inl memory) = inl memory
picks words w files before now status is (inr ends) = inr (subst (λ (r : Option Request). EndsAs (steps_by r files).result before now status) is ends)

-- words that ask for files to be joined
pub joins : (words : List (List ℕ)) (w : DviFilesValue) (files : List Held) (before now : Option (List ℕ)) (status : Status) → request_of words ≡ Some (Join w)
    → (status ≡ OutOfMemory) ⊎ EndsAs (steps words files).result before now status → (status ≡ OutOfMemory) ⊎ EndsAs (join_steps w files).result before now status
joins words w files before now status is (inl memory) = inl memory
joins words w files before now status is (inr ends) = inr (subst (λ (r : Option Request). EndsAs (steps_by r files).result before now status) is ends)

within_limit : (b : Bool) (name bytes : List ℕ) → b ≡ false → (if b then Err (TooLong name) else (let r : Result (List ℕ) Status = Ok bytes in r)) ≡ Ok bytes
within_limit true name bytes is = absurd (cc)
within_limit false name bytes is = refl

-- a file that was written is read back
written_back : (fonts : SetValue) (name : List ℕ) (files : List Held) (pages : List (List Place)) → Written fonts (content files name) pages
    → (dvi_step name fonts files).result ≡ Ok (Text (listing pages))
written_back fonts name files pages written =
    let short : nat_lt max_dvi (length (content files name)) ≡ false = grind (arith, nat_tests, written.size) in
    let read : pages_of fonts (content files name) ≡ Ok pages = reads_back fonts (content files name) pages written in
    let fetched : (file_of name max_dvi files).result ≡ Ok (content files name) = within_limit (nat_lt max_dvi (length (content files name))) name (content files name) short in
    ap (λ (r : Result (List ℕ) Status). (outcome_after r (name ∷ []) (λ bytes. plain (dvi_listing fonts bytes))).result) fetched
    ∙ ap (λ (r : Result (List (List Place)) Fault). dvi_by r) read

-- words that ask for a DVI file to be read
pub reads : (words : List (List ℕ)) (w : DviValue) (files : List Held) (fonts : SetValue) (pages : List (List Place)) (before now : Option (List ℕ)) (status : Status)
    → request_of words ≡ Some (Read w) → (font_set_step w.fonts files).result ≡ Ok fonts → Written fonts (content files w.dvi) pages
    → (status ≡ OutOfMemory) ⊎ EndsAs (steps words files).result before now status → (status ≡ OutOfMemory) ⊎ ListsPages pages before now status
reads words w files fonts pages before now status is set written (inl memory) = inl memory
reads words w files fonts pages before now status is set written (inr ends) =
    let answer : (read_steps w files).result ≡ Ok (Text (listing pages)) =
    ap (λ (r : Result SetValue Status). (outcome_after r (font_set_step w.fonts files).asked (λ set. dvi_step w.dvi set files)).result) set
    ∙ written_back fonts w.dvi files pages written in
    inr (subst (λ (r : Result Product Status). EndsAs r before now status) answer (subst (λ (r : Option Request). EndsAs (steps_by r files).result before now status) is ends))
