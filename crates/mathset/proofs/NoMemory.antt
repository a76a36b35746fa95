-- No words and files ask for a refusal for lack of memory (`answer_avoids`).
use Rattle.std.proofs.Common.{◌≡◌, ◌++◌, ℕ, length, Bool, true, false, List, [], ◌∷◌, refl, ap}
use Rattle.std.specs.Prelude.{ℤ, Option, Some, None, Result, Ok, Err, nat_lt, if◌then◌else◌}
use Rattle.mt_outside.specs.Files.{content}
use Rattle.mt_outside.specs.declared.files.Held.{Held}
use Rattle.mt_token.specs.Tokens.{max_source}
use Rattle.mt_tfm.specs.Font.{Metrics, metrics_of}
use Rattle.mt_box.specs.declared.place.Place.{Place}
use Rattle.mt_dvi.specs.File.{Fault, pages_of}
use Rattle.mt_family.specs.ListFacts.{ListValue}
use Rattle.mt_family.specs.Lists.{font_list}
use Rattle.mt_family.specs.SetValue.{SetValue}
use Rattle.mt_family.specs.declared.list.FontLine.{FontLine}
use Rattle.mt_status.specs.FontRefusals.{list_by}
use Rattle.mathset.specs.Answer.{answer, steps_by}
use Rattle.mt_dviops.specs.Copied.{Every, Numbered, Refusal, BadFile, PageOutOfRange, MagClash, TooManyPages, TooManyPlaces, TooLong as TooManyBytes, copied}
use Rattle.mathset.specs.CopySteps.{copy_by, files_step, join_refusal, join_step, joined_files, pick_refusal, pick_step, picked}
use Rattle.mathset.specs.DviSteps.{dvi_by, dvi_listing, dvi_step}
use Rattle.mathset.specs.FontSteps.{font_set_of, font_set_step, font_step, fonts_step, line_font, list_step, loaded_step, tfm_name}
use Rattle.mt_family.specs.Limits.{max_list_bytes}
use Rattle.mt_dvi.specs.Limits.{max_dvi}
use Rattle.mt_tfm.specs.Limits.{max_tfm}
use Rattle.mt_pages.specs.Listing.{listing}
use Rattle.mathset.specs.Outcome.{Outcome, outcome_after, plain, ◌>>=◌}
use Rattle.mathset.specs.Reads.{file_of}
use Rattle.mt_words.specs.Request.{request_of}
use Rattle.mt_words.specs.RequestValues.{DviFilesValue, DviPagesValue, DviValue, SampleValue, SourceValue}
use Rattle.mathset.specs.Samples.{sample_files, sample_words, summed}
use Rattle.mathset.specs.Steps.{gen_steps, join_steps, pick_steps, places_steps, read_steps, request_steps, set_steps, source_step, typeset_steps}
use Rattle.mt_pages.specs.Typeset.{TypesetValue, typeset_of}
use Rattle.mathset.specs.Product.{CopyValue, File, Text}
use Rattle.mt_words.specs.declared.request.Request.{Request}
use Rattle.mt_words.specs.declared.request.Request.TheVariants.{Set, Places, Read, Pick, Join, Gen}
use Rattle.mt_status.specs.declared.status.Status.{Status}
use Rattle.mt_status.specs.declared.status.Status.TheVariants.{OutOfMemory, TooLong}
use Rattle.mt_status.proofs.Avoiding.{Avoids, avoids_err, avoids_if}
use Rattle.mt_status.proofs.FontRefusals.{font_avoids, list_avoids, set_avoids}
use Rattle.mt_pages.proofs.PageRefusals.{typeset_avoids}

-- ---- steps one after another

-- a step that is not refused for lack of memory
abbrev StepAvoids : {T : Type 0} → Outcome T → Type 0
StepAvoids step = Avoids OutOfMemory step.result

after_avoids : {T U : Type 0} (r : Result T Status) (asked : List (List ℕ)) (next : T → Outcome U) → Avoids OutOfMemory r → ((x : T) → r ≡ Ok x → StepAvoids (next x))
    → StepAvoids (outcome_after r asked next)
after_avoids (Ok x) asked next first rest = rest x refl
after_avoids (Err status) asked next first rest = avoids_err OutOfMemory status (λ same. first (ap Err same))

then_avoids : {T U : Type 0} (step : Outcome T) (next : T → Outcome U) → StepAvoids step → ((x : T) → step.result ≡ Ok x → StepAvoids (next x)) → StepAvoids (step >>= next)
then_avoids step next first rest = after_avoids step.result step.asked next first rest

file_avoids : (name : List ℕ) (limit : ℕ) (files : List Held) → StepAvoids (file_of name limit files)
file_avoids name limit files = avoids_if OutOfMemory (nat_lt limit (length (content files name))) _ _ (λ same. cc) (λ same. cc)

short_by : (name content bytes : List ℕ) (limit : ℕ) (b : Bool) → nat_lt limit (length content) ≡ b → (if b then Err (TooLong name) else Ok content) ≡ Ok bytes
    → nat_lt limit (length bytes) ≡ false
short_by name content bytes limit true e h = absurd cc
short_by name content bytes limit false e h = cc

-- a file that is read is within its limit
file_short : (name : List ℕ) (limit : ℕ) (files : List Held) (bytes : List ℕ) → (file_of name limit files).result ≡ Ok bytes → nat_lt limit (length bytes) ≡ false
file_short name limit files bytes h = short_by name (content files name) bytes limit _ refl h

-- ---- the fonts

font_step_avoids : (n : ℕ) (line : FontLine) (files : List Held) → StepAvoids (font_step n line files)
font_step_avoids n line files =
    then_avoids (file_of (tfm_name line.name) max_tfm files) (λ bytes. plain (line_font n line bytes)) (file_avoids (tfm_name line.name) max_tfm files) (λ bytes is. font_avoids n bytes line.wanted (metrics_of bytes line.wanted line.skew))

fonts_step_avoids : (fonts : List Metrics) (lines : List FontLine) (files : List Held) → StepAvoids (fonts_step fonts lines files)
fonts_step_avoids fonts [] files = λ same. cc
fonts_step_avoids fonts (line ∷ lines) files =
    then_avoids (font_step (length fonts) line files) (λ font. fonts_step (fonts ++ font ∷ []) lines files) (font_step_avoids (length fonts) line files) (λ font is. fonts_step_avoids (fonts ++ font ∷ []) lines files)

list_step_avoids : (name : List ℕ) (files : List Held) → StepAvoids (list_step name files)
list_step_avoids name files = then_avoids (file_of name max_list_bytes files) (λ bytes. plain (list_by (font_list bytes))) (file_avoids name max_list_bytes files) (λ bytes is. list_avoids bytes)

loaded_step_avoids : (list : ListValue) (files : List Held) → StepAvoids (loaded_step list files)
loaded_step_avoids list files = then_avoids (fonts_step [] list.lines files) (λ fonts. plain (font_set_of list fonts)) (fonts_step_avoids [] list.lines files) (λ fonts is. set_avoids list fonts (record { lines = list.lines; families = list.families; fonts = fonts }))

font_set_step_avoids : (name : List ℕ) (files : List Held) → StepAvoids (font_set_step name files)
font_set_step_avoids name files = then_avoids (list_step name files) (λ list. loaded_step list files) (list_step_avoids name files) (λ list is. loaded_step_avoids list files)

-- ---- the commands

source_step_avoids : (name : List ℕ) (width : ℤ) (fonts : SetValue) (files : List Held) → StepAvoids (source_step name width fonts files)
source_step_avoids name width fonts files =
    then_avoids (file_of name max_source files) (λ source. plain (typeset_of fonts width source)) (file_avoids name max_source files)
    (λ source is. typeset_avoids fonts width source (file_short name max_source files source is))

typeset_steps_avoid : (words : SourceValue) (files : List Held) → StepAvoids (typeset_steps words files)
typeset_steps_avoid words files =
    then_avoids (font_set_step words.fonts files) (λ fonts. source_step words.source words.line fonts files) (font_set_step_avoids words.fonts files) (λ fonts is. source_step_avoids words.source words.line fonts files)

set_steps_avoid : (words : SourceValue) (files : List Held) → StepAvoids (set_steps words files)
set_steps_avoid words files = then_avoids (typeset_steps words files) (λ typeset. plain (Ok (File typeset))) (typeset_steps_avoid words files) (λ typeset is same. cc)

places_steps_avoid : (words : SourceValue) (files : List Held) → StepAvoids (places_steps words files)
places_steps_avoid words files = then_avoids (typeset_steps words files) (λ typeset. plain (Ok (Text (listing typeset.pages)))) (typeset_steps_avoid words files) (λ typeset is same. cc)

dvi_avoids : (read : Result (List (List Place)) Fault) → Avoids OutOfMemory (dvi_by read)
dvi_avoids (Ok pages) = λ same. cc
dvi_avoids (Err fault) = λ same. cc

dvi_step_avoids : (name : List ℕ) (fonts : SetValue) (files : List Held) → StepAvoids (dvi_step name fonts files)
dvi_step_avoids name fonts files = then_avoids (file_of name max_dvi files) (λ bytes. plain (dvi_listing fonts bytes)) (file_avoids name max_dvi files) (λ bytes is. dvi_avoids (pages_of fonts bytes))

read_steps_avoid : (words : DviValue) (files : List Held) → StepAvoids (read_steps words files)
read_steps_avoid words files = then_avoids (font_set_step words.fonts files) (λ fonts. dvi_step words.dvi fonts files) (font_set_step_avoids words.fonts files) (λ fonts is. dvi_step_avoids words.dvi fonts files)

join_refusal_avoids : (refusal : Refusal) → join_refusal refusal ≡ OutOfMemory → ⊥
join_refusal_avoids (BadFile file fault) = λ same. cc
join_refusal_avoids (PageOutOfRange page) = λ same. cc
join_refusal_avoids (MagClash file) = λ same. cc
join_refusal_avoids (TooManyPages count) = λ same. cc
join_refusal_avoids (TooManyPlaces count) = λ same. cc
join_refusal_avoids (TooManyBytes count) = λ same. cc

pick_refusal_avoids : (refusal : Refusal) → pick_refusal refusal ≡ OutOfMemory → ⊥
pick_refusal_avoids (BadFile file fault) = λ same. cc
pick_refusal_avoids (PageOutOfRange page) = λ same. cc
pick_refusal_avoids (MagClash file) = λ same. cc
pick_refusal_avoids (TooManyPages count) = λ same. cc
pick_refusal_avoids (TooManyPlaces count) = λ same. cc
pick_refusal_avoids (TooManyBytes count) = λ same. cc

copy_avoids : (refused : Refusal → Status) → ((refusal : Refusal) → refused refusal ≡ OutOfMemory → ⊥) → (copy : CopyValue) (answer : Result (List ℕ) Refusal) → Avoids OutOfMemory (copy_by refused copy answer)
copy_avoids refused never copy (Ok bytes) = λ same. cc
copy_avoids refused never copy (Err refusal) = avoids_err OutOfMemory (refused refusal) (never refusal)

pick_step_avoids : (name pages : List ℕ) (fonts : SetValue) (files : List Held) → StepAvoids (pick_step name pages fonts files)
pick_step_avoids name pages fonts files =
    then_avoids (file_of name max_dvi files) (λ bytes. plain (picked pages fonts bytes)) (file_avoids name max_dvi files)
    (λ bytes is. copy_avoids pick_refusal pick_refusal_avoids (record { fonts = fonts; files = bytes ∷ []; choice = Numbered pages }) (copied fonts (bytes ∷ []) (Numbered pages)))

pick_steps_avoid : (words : DviPagesValue) (files : List Held) → StepAvoids (pick_steps words files)
pick_steps_avoid words files = then_avoids (font_set_step words.fonts files) (λ fonts. pick_step words.dvi words.pages fonts files) (font_set_step_avoids words.fonts files) (λ fonts is. pick_step_avoids words.dvi words.pages fonts files)

files_step_avoids : (fetched names : List (List ℕ)) (files : List Held) → StepAvoids (files_step fetched names files)
files_step_avoids fetched [] files = λ same. cc
files_step_avoids fetched (name ∷ names) files =
    then_avoids (file_of name max_dvi files) (λ bytes. files_step (fetched ++ bytes ∷ []) names files) (file_avoids name max_dvi files) (λ bytes is. files_step_avoids (fetched ++ bytes ∷ []) names files)

join_step_avoids : (names : List (List ℕ)) (fonts : SetValue) (files : List Held) → StepAvoids (join_step names fonts files)
join_step_avoids names fonts files =
    then_avoids (files_step [] names files) (λ fetched. plain (joined_files fonts fetched)) (files_step_avoids [] names files)
    (λ fetched is. copy_avoids join_refusal join_refusal_avoids (record { fonts = fonts; files = fetched; choice = Every }) (copied fonts fetched Every))

join_steps_avoid : (words : DviFilesValue) (files : List Held) → StepAvoids (join_steps words files)
join_steps_avoid words files = then_avoids (font_set_step words.fonts files) (λ fonts. join_step words.files fonts files) (font_set_step_avoids words.fonts files) (λ fonts is. join_step_avoids words.files fonts files)

summed_avoids : (count : ℕ) (typeset : Result TypesetValue Status) → Avoids OutOfMemory typeset → Avoids OutOfMemory (summed count typeset)
summed_avoids count (Ok typeset) avoids = λ same. cc
summed_avoids count (Err status) avoids = avoids_err OutOfMemory status (λ same. avoids (ap Err same))

gen_steps_avoid : (words : SampleValue) (files : List Held) → StepAvoids (gen_steps words files)
gen_steps_avoid words files =
    summed_avoids words.count (typeset_steps sample_words (sample_files words.seed words.count)).result (typeset_steps_avoid sample_words (sample_files words.seed words.count))

request_steps_avoid : (request : Request) (files : List Held) → StepAvoids (request_steps request files)
request_steps_avoid (Set words) files = set_steps_avoid words files
request_steps_avoid (Places words) files = places_steps_avoid words files
request_steps_avoid (Read words) files = read_steps_avoid words files
request_steps_avoid (Pick words) files = pick_steps_avoid words files
request_steps_avoid (Join words) files = join_steps_avoid words files
request_steps_avoid (Gen words) files = gen_steps_avoid words files

steps_by_avoid : (request : Option Request) (files : List Held) → StepAvoids (steps_by request files)
steps_by_avoid None files = λ same. cc
steps_by_avoid (Some request) files = request_steps_avoid request files

pub answer_avoids : (words : List (List ℕ)) (files : List Held) → answer words files ≡ Err OutOfMemory → ⊥
answer_avoids words files = steps_by_avoid (request_of words) files
