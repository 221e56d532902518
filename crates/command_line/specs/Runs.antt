-- The run that options ask for.
use Rattle.std.specs.Prelude.{ℕ, ◌≡◌, ◌≢◌, ◌<◌, ◌≤◌, ◌⊎◌, ◌||◌, ◌&&◌, Bool, true, false, IfSome, IsSome, Option, Some, None, codes, if◌then◌else◌, is_some, nat_eq, not, unwrap_or}
use Rattle.std.specs.Borrow.{Bor}
use Rattle.std.specs.List.{ends_with}
use Rattle.std.specs.Option.{option_map_or}
use Rattle.std.specs.Str.{bytes_eq}
use Rattle.clap.specs.Words.{Text}
use Rattle.command_line.specs.declared.argument.Argument.{Argument}
use Rattle.command_line.specs.declared.argument.Argument.TheVariants as argument
use Rattle.command_line.specs.declared.fault.OrderFault.{OrderFault}
use Rattle.command_line.specs.declared.fault.OrderFault.TheVariants.{Value, TwoViews, LongPicture, LongPage, ThreadsAlone, MixAlone, TwoFiles}
use Rattle.command_line.specs.declared.options.Options.{Options}
use Rattle.command_line.specs.declared.request.Run.{Run}
use Rattle.command_line.specs.declared.request.Show.{Show}
use Rattle.command_line.specs.declared.request.Show.TheVariants as show
use Rattle.command_line.specs.declared.request.View.{View}
use Rattle.command_line.specs.declared.request.View.TheVariants as view
use Rattle.command_line.specs.declared.request.Way.{Way}
use Rattle.command_line.specs.declared.request.Way.TheVariants.{Turns, Threads}
use Rattle.command_line.specs.declared.request.Way.TheVariants as way
use Rattle.command_line.specs.declared.request.Chance.{Chance}
use Rattle.command_line.specs.declared.request.Mix.{Mix}
use Rattle.command_line.specs.declared.request.Print.{Print}
use Rattle.command_line.specs.declared.request.Print.TheVariants as print

-- whether the run reads the file with this path: the program's, or the schedule's
abbrev pub reads : Options → Text → Bool
reads options path = bytes_eq path options.setup.file.now || option_map_or (λ list. bytes_eq path list.now) options.schedule false

-- ---- what is shown

-- of a trace, a timeline and counts only the trace is asked for, at this path; or only the timeline
abbrev pub IsTraceAlone : Options → Bor Text → Type 0
IsTraceAlone options path = (options.trace ≡ Some path) × (options.timeline ≡ None) × (options.stats ≡ None)

abbrev pub IsTimelineAlone : Options → Bor Text → Type 0
IsTimelineAlone options path = (options.trace ≡ None) × (options.timeline ≡ Some path) × (options.stats ≡ None)

-- whether more than one of them is
abbrev pub are_several : Options → Bool
are_several options = (is_some options.trace && is_some options.timeline) || ((is_some options.trace || is_some options.timeline) && is_some options.stats)

-- the form that the path's ending names of a timeline: events, a picture, or a page
abbrev pub drawing_at : Text → Option View
drawing_at path =
    if ends_with nat_eq path (codes ".json") then Some view.Timeline
    else if ends_with nat_eq path (codes ".svg") then Some view.Picture
    else if ends_with nat_eq path (codes ".html") then Some view.Page else None

-- the most steps that a picture shows
abbrev pub most_drawn : ℕ
most_drawn = 2000

-- the most steps that a page shows
abbrev pub most_paged : ℕ
most_paged = 20000

-- this goes to the file with this path
abbrev pub IsViewAt : Options → View → Bor Text → Type 0
IsViewAt options view.Trace path = IsTraceAlone options path × (path.now ≢ codes "-")
IsViewAt options view.Timeline path = IsTimelineAlone options path × (drawing_at path.now ≡ Some view.Timeline)
IsViewAt options view.Picture path = IsTimelineAlone options path × (drawing_at path.now ≡ Some view.Picture) × (options.steps ≤ most_drawn)
IsViewAt options view.Page path = IsTimelineAlone options path × (drawing_at path.now ≡ Some view.Page) × (options.steps ≤ most_paged)

-- this is shown of the run; a trace goes to standard output for a dash
abbrev pub IsShowOf : Options → Show → Type 0
IsShowOf options show.Report = (options.trace ≡ None) × (options.timeline ≡ None) × (options.stats ≡ None)
IsShowOf options (show.Counts stats) = (options.trace ≡ None) × (options.timeline ≡ None) × (options.stats ≡ Some stats)
IsShowOf options show.Trace = (path : Bor Text) × IsTraceAlone options path × (path.now ≡ codes "-")
IsShowOf options (show.View view path) = IsViewAt options view path × (reads options path.now ≡ false)

-- what is to be shown can't go to this path: the run reads it, or no form of a timeline has its ending
abbrev pub IsUnusable : Options → Argument → Bor Text → Type 0
IsUnusable options argument.Trace path = IsTraceAlone options path × (path.now ≢ codes "-") × (reads options path.now ≡ true)
IsUnusable options argument.Timeline path = IsTimelineAlone options path × ((reads options path.now ≡ true) ⊎ (drawing_at path.now ≡ None))
IsUnusable options other path = ⊥

-- why nothing can be shown
abbrev pub IsShowFault : Options → OrderFault → Type 0
IsShowFault options TwoViews = are_several options ≡ true
IsShowFault options (Value what path) = IsUnusable options what path
IsShowFault options LongPicture = (path : Bor Text) × IsTimelineAlone options path × (reads options path.now ≡ false)
    × (drawing_at path.now ≡ Some view.Picture) × (most_drawn < options.steps)
IsShowFault options LongPage = (path : Bor Text) × IsTimelineAlone options path × (reads options path.now ≡ false)
    × (drawing_at path.now ≡ Some view.Page) × (most_paged < options.steps)
IsShowFault options other = ⊥

-- ---- how it is made

-- whether it has no schedule and no chance, and no more is shown of it than its report
abbrev pub stands_alone : Options → Show → Bool
stands_alone options show.Report = not (is_some options.schedule) && not (is_some options.seed) && not (is_some options.mix)
stands_alone options other = false

-- whether the history can go to this path, which is neither a dash nor that of a file that the run reads
abbrev pub can_keep : Options → Text → Bool
can_keep options path = not (bytes_eq path (codes "-") || reads options path)

-- the weights where none are given
abbrev pub default_mix : Mix
default_mix = record { cores = 30; arrivals = 30; evictions = 1 }

-- the chance that is asked for: by its seed, with its weights
abbrev pub IsChanceOf : Options → Chance → Type 0
IsChanceOf options chance = (options.seed ≡ Some chance.seed) × (chance.mix ≡ unwrap_or options.mix default_mix)

-- what is shown on standard output alone; and what isn't
abbrev pub shown : Print → Show
shown print.Report = show.Report
shown (print.Counts stats) = show.Counts stats
shown print.Trace = show.Trace

abbrev pub IsInFile : Show → Type 0
IsInFile (show.View view path) = Unit {0}
IsInFile other = ⊥

-- the run of which this is shown is made so: in turns without a history, by chance, with a history that is not beside another file, or in threads alone
abbrev pub IsWayOf : Options → Show → Way → Type 0
IsWayOf options show (Turns schedule shows) = (options.threads ≡ false) × (options.seed ≡ None) × (options.mix ≡ None) × (options.history ≡ None)
    × (schedule ≡ options.schedule) × (shows ≡ show)
IsWayOf options show (way.Chance schedule chance shows) = (options.threads ≡ false) × IsChanceOf options chance × (options.history ≡ None)
    × (schedule ≡ options.schedule) × (shows ≡ show)
IsWayOf options show (way.Kept schedule chance history print) = (options.threads ≡ false) × IsChanceOf options chance
    × (options.history ≡ Some history) × (can_keep options history.now ≡ true) × (schedule ≡ options.schedule) × (show ≡ shown print)
IsWayOf options show (Threads history) = (options.threads ≡ true) × (stands_alone options show ≡ true)
    × (history ≡ options.history) × IfSome options.history (λ path. can_keep options path.now ≡ true)

-- why it can't be: threads don't stand alone, or a history is asked for without them and without chance; weights are given without chance; the history can't go
-- to its path, or is beside another file
abbrev pub IsWayFault : Options → Show → OrderFault → Type 0
IsWayFault options show ThreadsAlone =
    ((options.threads ≡ true) × (stands_alone options show ≡ false)) ⊎ ((options.threads ≡ false) × (options.seed ≡ None) × IsSome options.history)
IsWayFault options show MixAlone = (options.threads ≡ false) × (options.seed ≡ None) × (options.history ≡ None) × IsSome options.mix
IsWayFault options show (Value what path) = (what ≡ argument.History) × ((options.threads ≡ true) × (stands_alone options show ≡ true) ⊎ (options.threads ≡ false) × IsSome options.seed)
    × (options.history ≡ Some path) × (can_keep options path.now ≡ false)
IsWayFault options show TwoFiles = (options.threads ≡ false) × IsSome options.seed × ((path : Bor Text) × (options.history ≡ Some path) × (can_keep options path.now ≡ true)) × IsInFile show
IsWayFault options show other = ⊥

-- ---- the run

-- the options ask for this run
abbrev pub IsRunOf : Options → Run → Type 0
IsRunOf options run = (run.setup ≡ options.setup) × (run.steps ≡ options.steps) × (run.words ≡ options.words)
    × ((show : Show) × IsShowOf options show × IsWayOf options show run.way)

-- why they ask for none: nothing can be shown of it; or it can, and the run can't be made
abbrev pub IsRunFault : Options → OrderFault → Type 0
IsRunFault options fault = IsShowFault options fault ⊎ ((show : Show) × IsShowOf options show × IsWayFault options show fault)
