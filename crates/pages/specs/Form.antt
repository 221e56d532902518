-- The page around its data, as page.html and page.js have it: scripts/write-page-form writes this.
use Rattle.std.specs.Prelude.{ℕ, List, [], ◌∷◌, codes}
use Rattle.std.specs.List.{concat}

-- what it begins with, up to its data
unfoldable pub head : List ℕ
head = concat (
    codes "<!DOCTYPE html>\n" ∷
    codes "<html lang=\"en\">\n" ∷
    codes "<head>\n" ∷
    codes "<meta charset=\"utf-8\">\n" ∷
    codes "<meta name=\"viewport\" content=\"width=device-width, initial-scale=1\">\n" ∷
    codes "<title>logtm: a run, step by step</title>\n" ∷
    codes "<style>\n" ∷
    codes ":root {\n" ∷
    codes "  color-scheme: light dark;\n" ∷
    codes "  --back: #ffffff; --ink: #1a1a1a; --soft: #595959; --rule: #b8b8b8; --card: #f6f6f4;\n" ∷
    codes "  --changed: #fff2c4; --mark: #8a5a00; --blue: #0060a0; --red: #a83a00; --green: #00684a;\n" ∷
    codes "}\n" ∷
    codes "@media (prefers-color-scheme: dark) {\n" ∷
    codes "  :root {\n" ∷
    codes "    --back: #17181a; --ink: #ececec; --soft: #a9a9a9; --rule: #55585c; --card: #202225;\n" ∷
    codes "    --changed: #473a10; --mark: #f0c04a; --blue: #6ab8ee; --red: #f5925e; --green: #57cfa6;\n" ∷
    codes "  }\n" ∷
    codes "}\n" ∷
    codes "* { box-sizing: border-box; }\n" ∷
    codes "body { margin: 0; background: var(--back); color: var(--ink); font: 14px/1.4 system-ui, sans-serif; }\n" ∷
    codes "header { position: sticky; top: 0; z-index: 1; background: var(--back); border-bottom: 1px solid var(--rule); padding: 6px 12px; }\n" ∷
    codes "h1 { font-size: 16px; margin: 0 16px 0 0; display: inline-block; }\n" ∷
    codes "h2 { font-size: 14px; margin: 0 0 4px; }\n" ∷
    codes "h3 { font-size: 11px; margin: 8px 0 2px; color: var(--soft); font-weight: 600; }\n" ∷
    codes "code, pre, .mono, td, th, li { font-family: ui-monospace, \"DejaVu Sans Mono\", monospace; font-size: 12px; }\n" ∷
    codes "#controls { display: flex; flex-wrap: wrap; gap: 6px; align-items: center; }\n" ∷
    codes "button, select, input { font: inherit; font-size: 13px; color: inherit; background: var(--card); border: 1px solid var(--rule); border-radius: 4px; padding: 2px 8px; }\n" ∷
    codes "button:disabled { opacity: 0.45; }\n" ∷
    codes ":focus-visible { outline: 3px solid var(--blue); outline-offset: 1px; }\n" ∷
    codes "#slider { width: 100%; margin: 6px 0 0; padding: 0; }\n" ∷
    codes "#number { width: 6.5em; }\n" ∷
    codes "#what { margin: 8px 12px; min-height: 3.6em; overflow-wrap: anywhere; }\n" ∷
    codes "#entry { font-weight: 600; }\n" ∷
    codes ".refusal { color: var(--mark); }\n" ∷
    codes ".abort { color: var(--red); }\n" ∷
    codes "#columns, #wires { display: grid; gap: 6px; margin: 0 12px; }\n" ∷
    codes "#wires { row-gap: 2px; margin-top: 8px; min-height: 5em; align-content: start; }\n" ∷
    codes ".column { background: var(--card); border: 1px solid var(--rule); border-radius: 6px; padding: 6px; min-width: 0; overflow-wrap: anywhere; }\n" ∷
    codes ".column .mono, .column li { font-size: 11px; }\n" ∷
    codes ".column.actor { border: 2px solid var(--blue); padding: 5px; }\n" ∷
    codes ".column.actor h2::after { content: \" (this step)\"; font-weight: 400; color: var(--blue); font-size: 11px; }\n" ∷
    codes ".changed { background: var(--changed); box-shadow: inset 3px 0 0 var(--mark); font-weight: 700; padding-left: 5px; }\n" ∷
    codes ".tx { border-left: 4px solid var(--green); padding-left: 5px; }\n" ∷
    codes ".tx.aborting { border-left: 4px dashed var(--red); }\n" ∷
    codes "ul { list-style: none; margin: 0; padding: 0; }\n" ∷
    codes ".set { display: flex; flex-wrap: wrap; gap: 2px; align-items: baseline; margin-bottom: 2px; }\n" ∷
    codes ".set > span { color: var(--soft); font-size: 11px; min-width: 1.2em; }\n" ∷
    codes ".way { border: 1px solid var(--rule); border-radius: 3px; padding: 0 3px; font-family: ui-monospace, \"DejaVu Sans Mono\", monospace; font-size: 11px; min-width: 1.3em; min-height: 1.5em; }\n" ∷
    codes ".way.S { border-style: dotted; }\n" ∷
    codes ".way.E { border-style: dashed; }\n" ∷
    codes ".way.M { border-style: solid; border-color: var(--ink); }\n" ∷
    codes ".way.changed { padding-left: 5px; }\n" ∷
    codes ".wire { position: relative; border-bottom: 2px solid var(--blue); margin: 0 calc(50% / var(--span)) 5px; text-align: center; font-family: ui-monospace, \"DejaVu Sans Mono\", monospace; font-size: 11px; line-height: 1.25; padding: 0 10px 2px; overflow-wrap: anywhere; }\n" ∷
    codes ".wire::after { position: absolute; bottom: -6px; border: 5px solid transparent; content: \"\"; }\n" ∷
    codes ".wire.right::after { border-left: 10px solid var(--blue); right: -8px; }\n" ∷
    codes ".wire.left::after { border-right: 10px solid var(--blue); left: -8px; }\n" ∷
    codes ".wire.sent { font-weight: 700; background: var(--changed); }\n" ∷
    codes ".wire.arrived { border-bottom-style: dotted; color: var(--soft); }\n" ∷
    codes ".wire.held { border-bottom-style: dashed; }\n" ∷
    codes "table { border-collapse: collapse; margin: 8px 12px; }\n" ∷
    codes "th, td { border: 1px solid var(--rule); padding: 1px 8px; text-align: left; }\n" ∷
    codes "details { margin: 8px 12px; }\n" ∷
    codes "summary { cursor: pointer; font-size: 12px; color: var(--soft); }\n" ∷
    codes ".column details { margin: 8px 0 0; }\n" ∷
    codes "@media print {\n" ∷
    codes "  header { position: static; }\n" ∷
    codes "  #controls, #slider { display: none; }\n" ∷
    codes "  .changed, .wire.sent { -webkit-print-color-adjust: exact; print-color-adjust: exact; }\n" ∷
    codes "}\n" ∷
    codes "</style>\n" ∷
    codes "</head>\n" ∷
    codes "<body>\n" ∷
    codes "<header>\n" ∷
    codes "<div id=\"controls\">\n" ∷
    codes "<h1>logtm</h1>\n" ∷
    codes "<button id=\"first\" title=\"to the beginning (Home)\">First</button>\n" ∷
    codes "<button id=\"back\" title=\"one step back (left arrow)\">Back</button>\n" ∷
    codes "<button id=\"play\" title=\"play or pause (space)\">Play</button>\n" ∷
    codes "<button id=\"forward\" title=\"one step forward (right arrow)\">Forward</button>\n" ∷
    codes "<button id=\"last\" title=\"to the end (End)\">Last</button>\n" ∷
    codes "<label>Step <input id=\"number\" type=\"number\" min=\"0\"></label> <span id=\"count\"></span>\n" ∷
    codes "<button id=\"next-entry\" title=\"to the next entry (e)\">Next entry</button>\n" ∷
    codes "<button id=\"next-refusal\" title=\"to the next refusal (r)\">Next refusal</button>\n" ∷
    codes "<button id=\"next-abort\" title=\"to the next abort (a)\">Next abort</button>\n" ∷
    codes "<label>Block <select id=\"block\"></select></label>\n" ∷
    codes "<button id=\"next-message\" title=\"to the next message of the block (m)\">Next message</button>\n" ∷
    codes "</div>\n" ∷
    codes "<input id=\"slider\" type=\"range\" min=\"0\" value=\"0\" aria-label=\"Step\">\n" ∷
    codes "</header>\n" ∷
    codes "<main>\n" ∷
    codes "<div id=\"what\" aria-live=\"polite\"><div id=\"title\"></div><code id=\"entry\"></code></div>\n" ∷
    codes "<div id=\"columns\"></div>\n" ∷
    codes "<div id=\"wires\" aria-label=\"Messages in flight\"></div>\n" ∷
    codes "<details open><summary>Messages in flight, the oldest first</summary><ul id=\"flights\"></ul></details>\n" ∷
    codes "<table id=\"memory\"></table>\n" ∷
    codes "</main>\n" ∷
    codes "<noscript>This page needs its script.</noscript>\n" ∷
    codes "<script>\n" ∷
    codes "const RUN = {\n" ∷
    [])

-- what comes behind its data: the script, and the end
unfoldable pub tail : List ℕ
tail = concat (
    codes "]};\n" ∷
    codes "</script>\n" ∷
    codes "<script>\n" ∷
    codes "\"use strict\";\n" ∷
    codes "// Shows RUN, a run of logtm, one step after another. It tells how the run begins; and a moment of it tells what its step left of one hart and of one\n" ∷
    codes "// entry of the directory, what is in flight, and the words. The states between are put together here. State n is the one behind n steps.\n" ∷
    codes "\n" ∷
    codes "const LAST = RUN.moments.length;\n" ∷
    codes "const APART = 50; // how many steps lie between two states that are kept\n" ∷
    codes "const REGISTERS = \"zero ra sp gp tp t0 t1 t2 s0 s1 a0 a1 a2 a3 a4 a5 a6 a7 s2 s3 s4 s5 s6 s7 s8 s9 s10 s11 t3 t4 t5 t6\".split(\" \");\n" ∷
    codes "const FIRST_ENTRY = \"owner none sharers - busy -\";\n" ∷
    codes "\n" ∷
    codes "// ---- states\n" ∷
    codes "\n" ∷
    codes "const flightsOf = (told, before) => new Map(told.map((flight) => (Array.isArray(flight) ? flight : [flight, before.get(flight)])));\n" ∷
    codes "\n" ∷
    codes "function firstState() {\n" ∷
    codes "  return {\n" ∷
    codes "    harts: RUN.first.harts.slice(),\n" ∷
    codes "    directory: new Map(),\n" ∷
    codes "    flights: flightsOf(RUN.first.flights, new Map()), // texts of messages, by their numbers\n" ∷
    codes "    words: RUN.first.words,\n" ∷
    codes "  };\n" ∷
    codes "}\n" ∷
    codes "\n" ∷
    codes "function copyOf(state) {\n" ∷
    codes "  return { harts: state.harts.slice(), directory: new Map(state.directory), flights: state.flights, words: state.words };\n" ∷
    codes "}\n" ∷
    codes "\n" ∷
    codes "// Makes of a state the one behind a moment.\n" ∷
    codes "function apply(state, moment) {\n" ∷
    codes "  if (moment.hart) state.harts[moment.hart.id] = moment.hart;\n" ∷
    codes "  if (moment.directory) {\n" ∷
    codes "    const block = moment.directory.slice(0, 8);\n" ∷
    codes "    const entry = moment.directory.slice(9);\n" ∷
    codes "    if (entry === FIRST_ENTRY) state.directory.delete(block);\n" ∷
    codes "    else state.directory.set(block, entry);\n" ∷
    codes "  }\n" ∷
    codes "  state.flights = flightsOf(moment.flights, state.flights);\n" ∷
    codes "  state.words = moment.words;\n" ∷
    codes "}\n" ∷
    codes "\n" ∷
    codes "const blockOf = (line) => line.slice(0, 8);\n" ∷
    codes "const setOf = (line) => Math.floor(parseInt(blockOf(line), 16) / 32) % RUN.sets;\n" ∷
    codes "\n" ∷
    codes "// Says of a hart in which places, by set and way, its lines stand. As in the machine, a line stays where it stood, and a block that gets one gets the\n" ∷
    codes "// lowest way of its set that was free.\n" ∷
    codes "function placeLines(hart, before) {\n" ∷
    codes "  const stood = before ? before.lines.map(blockOf) : [];\n" ∷
    codes "  const taken = new Set(before ? before.places : []);\n" ∷
    codes "  hart.places = hart.lines.map((line) => {\n" ∷
    codes "    const index = stood.indexOf(blockOf(line));\n" ∷
    codes "    if (index >= 0) return before.places[index];\n" ∷
    codes "    let place = setOf(line) * RUN.ways;\n" ∷
    codes "    while (taken.has(place)) place += 1;\n" ∷
    codes "    taken.add(place);\n" ∷
    codes "    return place;\n" ∷
    codes "  });\n" ∷
    codes "}\n" ∷
    codes "\n" ∷
    codes "const kept = [];\n" ∷
    codes "const texts = new Map(); // of all messages, by their numbers\n" ∷
    codes "const blocks = new Set();\n" ∷
    codes "const usedSets = new Set();\n" ∷
    codes "\n" ∷
    codes "function noteHart(hart, before) {\n" ∷
    codes "  placeLines(hart, before);\n" ∷
    codes "  for (const line of hart.lines) usedSets.add(setOf(line));\n" ∷
    codes "}\n" ∷
    codes "\n" ∷
    codes "function noteFlights(flights) {\n" ∷
    codes "  for (const flight of flights) {\n" ∷
    codes "    if (!Array.isArray(flight)) continue;\n" ∷
    codes "    texts.set(flight[0], flight[1]);\n" ∷
    codes "    blocks.add(flight[1].split(\" \")[2]);\n" ∷
    codes "  }\n" ∷
    codes "}\n" ∷
    codes "\n" ∷
    codes "function keepStates() {\n" ∷
    codes "  const state = firstState();\n" ∷
    codes "  state.harts.forEach((hart) => noteHart(hart, null));\n" ∷
    codes "  noteFlights(RUN.first.flights);\n" ∷
    codes "  RUN.moments.forEach((moment, number) => {\n" ∷
    codes "    if (number % APART === 0) kept.push(copyOf(state));\n" ∷
    codes "    if (moment.hart) noteHart(moment.hart, state.harts[moment.hart.id]);\n" ∷
    codes "    noteFlights(moment.flights);\n" ∷
    codes "    apply(state, moment);\n" ∷
    codes "  });\n" ∷
    codes "  if (LAST % APART === 0) kept.push(copyOf(state));\n" ∷
    codes "}\n" ∷
    codes "\n" ∷
    codes "function stateAt(number) {\n" ∷
    codes "  const from = Math.floor(number / APART);\n" ∷
    codes "  const state = copyOf(kept[from]);\n" ∷
    codes "  for (let step = from * APART; step < number; step += 1) apply(state, RUN.moments[step]);\n" ∷
    codes "  return state;\n" ∷
    codes "}\n" ∷
    codes "\n" ∷
    codes "// ---- elements\n" ∷
    codes "\n" ∷
    codes "function make(name, text, ...classes) {\n" ∷
    codes "  const element = document.createElement(name);\n" ∷
    codes "  if (text !== null) element.textContent = text;\n" ∷
    codes "  element.classList.add(...classes.filter((word) => word));\n" ∷
    codes "  return element;\n" ∷
    codes "}\n" ∷
    codes "\n" ∷
    codes "function at(id) {\n" ∷
    codes "  return document.getElementById(id);\n" ∷
    codes "}\n" ∷
    codes "\n" ∷
    codes "function marked(now, before) {\n" ∷
    codes "  return now === before ? \"\" : \"changed\";\n" ∷
    codes "}\n" ∷
    codes "\n" ∷
    codes "const hex = (value) => \"0x\" + value.toString(16).padStart(8, \"0\");\n" ∷
    codes "\n" ∷
    codes "function transactionText(hart) {\n" ∷
    codes "  if (!hart.tx) return \"none\";\n" ∷
    codes "  const { depth, records, stamp, overflow, cycle, aborting } = hart.tx;\n" ∷
    codes "  const bits = (overflow ? \" overflow\" : \"\") + (cycle ? \" cycle\" : \"\") + (aborting ? \" aborting\" : \"\");\n" ∷
    codes "  return \"depth \" + depth + \" records \" + records + \" stamp \" + stamp + bits;\n" ∷
    codes "}\n" ∷
    codes "\n" ∷
    codes "const pcText = (hart) => \"pc=0x\" + hart.pc + (hart.name || \"\");\n" ∷
    codes "const waitText = (hart) => (hart.waits ? \"waits 0x\" + hart.waits : \"\");\n" ∷
    codes "\n" ∷
    codes "// A fact of a hart, marked if it changed.\n" ∷
    codes "function fact(id, name, now, before, ...classes) {\n" ∷
    codes "  const element = make(\"div\", now, \"mono\", marked(now, before), ...classes);\n" ∷
    codes "  element.id = name + \"-\" + id;\n" ∷
    codes "  return element;\n" ∷
    codes "}\n" ∷
    codes "\n" ∷
    codes "// The line in a place as its block, its state and marks, or none.\n" ∷
    codes "function lineIn(hart, place) {\n" ∷
    codes "  const index = hart.places.indexOf(place);\n" ∷
    codes "  if (index < 0) return null;\n" ∷
    codes "  const [block, letter, marks] = hart.lines[index].split(\" \");\n" ∷
    codes "  return { block, letter, text: parseInt(block, 16).toString(16) + \" \" + letter + \" \" + marks, told: block + \" \" + letter + \" \" + marks };\n" ∷
    codes "}\n" ∷
    codes "\n" ∷
    codes "function cellOf(hart, was, set, way) {\n" ∷
    codes "  const line = lineIn(hart, set * RUN.ways + way);\n" ∷
    codes "  const before = lineIn(was, set * RUN.ways + way);\n" ∷
    codes "  const text = line ? line.text : \"-\";\n" ∷
    codes "  const cell = make(\"div\", text, \"way\", line ? line.letter : \"\", marked(text, before ? before.text : \"-\"));\n" ∷
    codes "  cell.title = \"set \" + set + \", way \" + way + (line ? \": block 0x\" + line.block : \": no line\");\n" ∷
    codes "  if (line) cell.dataset.line = hart.id + \" 0x\" + line.told;\n" ∷
    codes "  return cell;\n" ∷
    codes "}\n" ∷
    codes "\n" ∷
    codes "function cacheOf(hart, was) {\n" ∷
    codes "  const grid = make(\"div\", null, \"cache\");\n" ∷
    codes "  for (const set of [...usedSets].sort((a, b) => a - b)) {\n" ∷
    codes "    const row = make(\"div\", null, \"set\");\n" ∷
    codes "    row.append(make(\"span\", String(set)));\n" ∷
    codes "    for (let way = 0; way < RUN.ways; way += 1) row.append(cellOf(hart, was, set, way));\n" ∷
    codes "    grid.append(row);\n" ∷
    codes "  }\n" ∷
    codes "  return grid;\n" ∷
    codes "}\n" ∷
    codes "\n" ∷
    codes "const registerItem = (hart, was, number) => make(\"li\", REGISTERS[number] + \"=\" + hex(hart.regs[number]), marked(hart.regs[number], was.regs[number]));\n" ∷
    codes "\n" ∷
    codes "function registersOf(hart, was) {\n" ∷
    codes "  const list = make(\"ul\", null);\n" ∷
    codes "  REGISTERS.forEach((name, number) => list.append(registerItem(hart, was, number)));\n" ∷
    codes "  return list;\n" ∷
    codes "}\n" ∷
    codes "\n" ∷
    codes "function changedRegisters(hart, was) {\n" ∷
    codes "  const list = make(\"ul\", null);\n" ∷
    codes "  REGISTERS.forEach((name, number) => {\n" ∷
    codes "    if (hart.regs[number] !== was.regs[number]) list.append(registerItem(hart, was, number));\n" ∷
    codes "  });\n" ∷
    codes "  return list;\n" ∷
    codes "}\n" ∷
    codes "\n" ∷
    codes "const opened = new Set(); // the harts whose registers are all shown\n" ∷
    codes "\n" ∷
    codes "function allRegisters(hart, was) {\n" ∷
    codes "  const id = hart.id;\n" ∷
    codes "  const all = make(\"details\", null);\n" ∷
    codes "  all.open = opened.has(id);\n" ∷
    codes "  all.append(make(\"summary\", \"all registers\"));\n" ∷
    codes "  if (all.open) all.append(registersOf(hart, was));\n" ∷
    codes "  all.addEventListener(\"toggle\", () => {\n" ∷
    codes "    if (all.open === opened.has(id)) return;\n" ∷
    codes "    if (all.open) {\n" ∷
    codes "      opened.add(id);\n" ∷
    codes "      all.append(registersOf(hart, was));\n" ∷
    codes "    } else {\n" ∷
    codes "      opened.delete(id);\n" ∷
    codes "      all.lastChild.remove();\n" ∷
    codes "    }\n" ∷
    codes "  });\n" ∷
    codes "  return all;\n" ∷
    codes "}\n" ∷
    codes "\n" ∷
    codes "function hartColumn(hart, was, isActor) {\n" ∷
    codes "  const id = hart.id;\n" ∷
    codes "  const column = make(\"section\", null, \"column\", isActor ? \"actor\" : \"\");\n" ∷
    codes "  column.append(make(\"h2\", \"hart \" + id));\n" ∷
    codes "  column.append(fact(id, \"pc\", pcText(hart), pcText(was)), fact(id, \"status\", hart.status, was.status), fact(id, \"next\", hart.next, was.next));\n" ∷
    codes "  if (hart.waits) column.append(fact(id, \"waits\", waitText(hart), waitText(was)));\n" ∷
    codes "  column.append(make(\"h3\", \"transaction\"));\n" ∷
    codes "  const classes = hart.tx ? [\"tx\", hart.tx.aborting ? \"aborting\" : \"\"] : [];\n" ∷
    codes "  column.append(fact(id, \"tx\", transactionText(hart), transactionText(was), ...classes));\n" ∷
    codes "  column.append(make(\"h3\", \"cache: set, ways\"), cacheOf(hart, was));\n" ∷
    codes "  column.append(make(\"h3\", \"registers that changed\"), changedRegisters(hart, was));\n" ∷
    codes "  column.append(allRegisters(hart, was));\n" ∷
    codes "  return column;\n" ∷
    codes "}\n" ∷
    codes "\n" ∷
    codes "const shownHarts = []; // of each hart what its column shows, and the column\n" ∷
    codes "\n" ∷
    codes "// The columns of the harts. One that shows the same as before stays as it is.\n" ∷
    codes "function hartColumns(state, before, actor) {\n" ∷
    codes "  return state.harts.map((hart, id) => {\n" ∷
    codes "    const [was, isActor] = [before.harts[id], actor === id];\n" ∷
    codes "    const shown = shownHarts[id];\n" ∷
    codes "    if (shown && shown.hart === hart && shown.was === was && shown.isActor === isActor) return shown.column;\n" ∷
    codes "    const column = hartColumn(hart, was, isActor);\n" ∷
    codes "    shownHarts[id] = { hart, was, isActor, column };\n" ∷
    codes "    return column;\n" ∷
    codes "  });\n" ∷
    codes "}\n" ∷
    codes "\n" ∷
    codes "function directoryColumn(state, before, actor) {\n" ∷
    codes "  const column = make(\"section\", null, \"column\", actor === RUN.harts ? \"actor\" : \"\");\n" ∷
    codes "  column.append(make(\"h2\", \"directory\"));\n" ∷
    codes "  const list = make(\"ul\", null);\n" ∷
    codes "  list.id = \"directory\";\n" ∷
    codes "  for (const block of [...new Set([...state.directory.keys(), ...before.directory.keys()])].sort()) {\n" ∷
    codes "    const entry = state.directory.get(block);\n" ∷
    codes "    const text = \"0x\" + block + \" \" + (entry || \"not in use\");\n" ∷
    codes "    const item = make(\"li\", text, marked(entry, before.directory.get(block)));\n" ∷
    codes "    if (entry) item.dataset.entry = text;\n" ∷
    codes "    list.append(item);\n" ∷
    codes "  }\n" ∷
    codes "  column.append(list);\n" ∷
    codes "  return column;\n" ∷
    codes "}\n" ∷
    codes "\n" ∷
    codes "// From which column a message goes to which; the directory's is behind those of the harts.\n" ∷
    codes "function endsOf(text) {\n" ∷
    codes "  const words = text.split(\" \");\n" ∷
    codes "  const hart = Number(words[1]);\n" ∷
    codes "  switch (words[0]) {\n" ∷
    codes "    case \"get\":\n" ∷
    codes "    case \"put\":\n" ∷
    codes "    case \"done\":\n" ∷
    codes "      return [hart, RUN.harts];\n" ∷
    codes "    case \"ack\":\n" ∷
    codes "    case \"nack\":\n" ∷
    codes "      return [hart, Number(words[4])];\n" ∷
    codes "    default:\n" ∷
    codes "      return [RUN.harts, hart];\n" ∷
    codes "  }\n" ∷
    codes "}\n" ∷
    codes "\n" ∷
    codes "// The directory holds a request and a Put while their block is busy.\n" ∷
    codes "function isHeld(text, state) {\n" ∷
    codes "  const [sort, , block] = text.split(\" \");\n" ∷
    codes "  const entry = state.directory.get(block.slice(2));\n" ∷
    codes "  return (sort === \"get\" || sort === \"put\") && entry !== undefined && !entry.endsWith(\"busy -\");\n" ∷
    codes "}\n" ∷
    codes "\n" ∷
    codes "function wire(text, row, ...classes) {\n" ∷
    codes "  const [from, to] = endsOf(text);\n" ∷
    codes "  const low = Math.min(from, to);\n" ∷
    codes "  const high = Math.max(from, to);\n" ∷
    codes "  const element = make(\"div\", text, \"wire\", from < to ? \"right\" : \"left\", ...classes);\n" ∷
    codes "  element.style.gridColumn = low + 1 + \" / \" + (high + 2);\n" ∷
    codes "  element.style.gridRow = row;\n" ∷
    codes "  element.style.setProperty(\"--span\", high - low + 1);\n" ∷
    codes "  return element;\n" ∷
    codes "}\n" ∷
    codes "\n" ∷
    codes "function showFlights(state, moment) {\n" ∷
    codes "  const wires = [];\n" ∷
    codes "  const list = [];\n" ∷
    codes "  const arrived = moment && moment.arrival !== undefined && !state.flights.has(moment.arrival);\n" ∷
    codes "  if (arrived) wires.push(wire(texts.get(moment.arrival) + \" (arrives)\", 1, \"arrived\"));\n" ∷
    codes "  const isNew = new Set(moment ? moment.flights.filter(Array.isArray).map((flight) => flight[0]) : []);\n" ∷
    codes "  for (const [number, text] of [...state.flights].sort((a, b) => a[0] - b[0])) {\n" ∷
    codes "    const held = isHeld(text, state) ? \" held\" : \"\";\n" ∷
    codes "    const sent = isNew.has(number) ? \"sent\" : \"\";\n" ∷
    codes "    wires.push(wire(text + held, wires.length + 1, sent, held.trim()));\n" ∷
    codes "    list.push(make(\"li\", text + held, sent ? \"changed\" : \"\"));\n" ∷
    codes "  }\n" ∷
    codes "  at(\"wires\").replaceChildren(...wires);\n" ∷
    codes "  at(\"flights\").replaceChildren(...list);\n" ∷
    codes "}\n" ∷
    codes "\n" ∷
    codes "function showMemory(state, before) {\n" ∷
    codes "  const rows = [];\n" ∷
    codes "  if (RUN.addresses.length) {\n" ∷
    codes "    const head = make(\"tr\", null);\n" ∷
    codes "    head.append(make(\"th\", \"word\"), make(\"th\", \"in place\"), make(\"th\", \"rolled back\"));\n" ∷
    codes "    rows.push(head);\n" ∷
    codes "  }\n" ∷
    codes "  RUN.addresses.forEach((address, number) => {\n" ∷
    codes "    const row = make(\"tr\", null);\n" ∷
    codes "    row.append(make(\"td\", \"0x\" + address));\n" ∷
    codes "    for (const side of [0, 1]) {\n" ∷
    codes "      const value = state.words[2 * number + side];\n" ∷
    codes "      const was = before.words[2 * number + side];\n" ∷
    codes "      row.append(make(\"td\", value === null ? \"-\" : \"0x\" + value, marked(value, was)));\n" ∷
    codes "    }\n" ∷
    codes "    rows.push(row);\n" ∷
    codes "  });\n" ∷
    codes "  at(\"memory\").replaceChildren(...rows);\n" ∷
    codes "}\n" ∷
    codes "\n" ∷
    codes "// ---- the step that is shown\n" ∷
    codes "\n" ∷
    codes "let shownStep = 0;\n" ∷
    codes "\n" ∷
    codes "function actorOf(moment) {\n" ∷
    codes "  if (!moment) return null;\n" ∷
    codes "  if (moment.hart) return moment.hart.id;\n" ∷
    codes "  return moment.arrival === undefined ? null : RUN.harts;\n" ∷
    codes "}\n" ∷
    codes "\n" ∷
    codes "// A part of an entry that tells a register, a load or a store.\n" ∷
    codes "function partInWords(part) {\n" ∷
    codes "  const [what, size, access] = part.split(\" \");\n" ∷
    codes "  if (size === undefined) return \" and sets \" + what.replace(\"=\", \" to \");\n" ∷
    codes "  const [address, value] = access.split(\"=\");\n" ∷
    codes "  return (what === \"load\" ? \" and reads \" + value + \" from \" : \" and writes \" + value + \" to \") + address;\n" ∷
    codes "}\n" ∷
    codes "\n" ∷
    codes "// What an entry says, in words.\n" ∷
    codes "function inWords(entry) {\n" ∷
    codes "  const [instruction, ...parts] = entry.split(\" | \");\n" ∷
    codes "  const [hart, what, third, fourth, block] = entry.split(\" \");\n" ∷
    codes "  switch (what) {\n" ∷
    codes "    case \"abort\":\n" ∷
    codes "      return \"Hart \" + hart + \" aborts its transaction: \" + entry.split(\" abort \")[1] + \".\";\n" ∷
    codes "    case \"trap\":\n" ∷
    codes "      return \"Hart \" + hart + \" is stopped by a trap: \" + entry.split(\" \").slice(3).join(\" \") + \".\";\n" ∷
    codes "    case \"refuses\":\n" ∷
    codes "      return \"Hart \" + hart + \" refuses hart \" + third + \" the block \" + block + \".\";\n" ∷
    codes "    case \"spills\":\n" ∷
    codes "      return \"Hart \" + hart + \" gives up its line of the block \" + fourth + \", which its transaction has used.\";\n" ∷
    codes "    default:\n" ∷
    codes "      return \"Hart \" + hart + \" executes \" + instruction.split(\" \").slice(3).join(\" \") + parts.map(partInWords).join(\"\") + \".\";\n" ∷
    codes "  }\n" ∷
    codes "}\n" ∷
    codes "\n" ∷
    codes "function titleOf(moment) {\n" ∷
    codes "  if (!moment) return \"Before the first step.\";\n" ∷
    codes "  const said = moment.entry ? \" \" + inWords(moment.entry.trim()) : \"\";\n" ∷
    codes "  if (moment.step === \"deliver\") return (moment.arrival === undefined ? \"Nothing arrives.\" : \"Arrives: \" + texts.get(moment.arrival) + \".\") + said;\n" ∷
    codes "  const hart = moment.hart ? \"Hart \" + moment.hart.id : \"No hart\";\n" ∷
    codes "  return (moment.step === \"core\" ? (moment.entry ? \"\" : hart + \" makes a step of its core.\") : hart + \" is to give up its line: \" + moment.step + \".\") + said;\n" ∷
    codes "}\n" ∷
    codes "\n" ∷
    codes "// The line of an entry, with the name of its first address where there is one.\n" ∷
    codes "function entryOf(moment) {\n" ∷
    codes "  if (!moment || !moment.entry) return \"\";\n" ∷
    codes "  return moment.entry.trim().replace(/0x[0-9a-f]{8}/, (address) => address + (moment.name || \"\"));\n" ∷
    codes "}\n" ∷
    codes "\n" ∷
    codes "// Puts elements into a parent, where those that it has already stay as they are.\n" ∷
    codes "function replaceColumns(parent, columns) {\n" ∷
    codes "  if (parent.children.length !== columns.length) return parent.replaceChildren(...columns);\n" ∷
    codes "  columns.forEach((column, index) => {\n" ∷
    codes "    if (parent.children[index] !== column) parent.children[index].replaceWith(column);\n" ∷
    codes "  });\n" ∷
    codes "}\n" ∷
    codes "\n" ∷
    codes "function showStep(number) {\n" ∷
    codes "  shownStep = Math.max(0, Math.min(LAST, Math.trunc(number)));\n" ∷
    codes "  const moment = shownStep > 0 ? RUN.moments[shownStep - 1] : null;\n" ∷
    codes "  const before = stateAt(Math.max(0, shownStep - 1));\n" ∷
    codes "  const state = copyOf(before);\n" ∷
    codes "  if (moment) apply(state, moment);\n" ∷
    codes "  at(\"title\").textContent = \"Step \" + shownStep + \" of \" + LAST + \". \" + titleOf(moment);\n" ∷
    codes "  at(\"entry\").textContent = entryOf(moment);\n" ∷
    codes "  at(\"entry\").className = isRefusal(moment) ? \"refusal\" : isAbort(moment) ? \"abort\" : \"\";\n" ∷
    codes "  const actor = actorOf(moment);\n" ∷
    codes "  replaceColumns(at(\"columns\"), [...hartColumns(state, before, actor), directoryColumn(state, before, actor)]);\n" ∷
    codes "  showFlights(state, moment);\n" ∷
    codes "  showMemory(state, before);\n" ∷
    codes "  at(\"slider\").value = shownStep;\n" ∷
    codes "  at(\"number\").value = shownStep;\n" ∷
    codes "  at(\"back\").disabled = at(\"first\").disabled = shownStep === 0;\n" ∷
    codes "  at(\"forward\").disabled = at(\"last\").disabled = shownStep === LAST;\n" ∷
    codes "}\n" ∷
    codes "\n" ∷
    codes "// Goes to a step, which the address names from then on.\n" ∷
    codes "function goTo(number) {\n" ∷
    codes "  showStep(number);\n" ∷
    codes "  history.replaceState(null, \"\", \"#\" + shownStep);\n" ∷
    codes "}\n" ∷
    codes "\n" ∷
    codes "// ---- what is looked for\n" ∷
    codes "\n" ∷
    codes "const isEntry = (moment) => moment !== null && moment.entry !== undefined;\n" ∷
    codes "const isRefusal = (moment) => isEntry(moment) && moment.entry.includes(\" refuses \");\n" ∷
    codes "const isAbort = (moment) => isEntry(moment) && moment.entry.includes(\" abort \");\n" ∷
    codes "\n" ∷
    codes "// Whether a message of the chosen block is sent or arrives.\n" ∷
    codes "function hasMessage(moment) {\n" ∷
    codes "  const told = moment.flights.filter(Array.isArray).map((flight) => flight[1]);\n" ∷
    codes "  if (moment.arrival !== undefined) told.push(texts.get(moment.arrival));\n" ∷
    codes "  return told.some((text) => text.split(\" \")[2] === at(\"block\").value);\n" ∷
    codes "}\n" ∷
    codes "\n" ∷
    codes "function goToNext(test) {\n" ∷
    codes "  const index = RUN.moments.findIndex((moment, number) => number >= shownStep && test(moment));\n" ∷
    codes "  if (index >= 0) goTo(index + 1);\n" ∷
    codes "  else at(\"title\").textContent = \"Step \" + shownStep + \" of \" + LAST + \". There is no later one.\";\n" ∷
    codes "}\n" ∷
    codes "\n" ∷
    codes "let timer = null;\n" ∷
    codes "\n" ∷
    codes "function pause() {\n" ∷
    codes "  clearInterval(timer);\n" ∷
    codes "  timer = null;\n" ∷
    codes "  at(\"play\").textContent = \"Play\";\n" ∷
    codes "}\n" ∷
    codes "\n" ∷
    codes "function playOrPause() {\n" ∷
    codes "  if (timer !== null) return pause();\n" ∷
    codes "  at(\"play\").textContent = \"Pause\";\n" ∷
    codes "  timer = setInterval(() => (shownStep < LAST ? goTo(shownStep + 1) : pause()), 700);\n" ∷
    codes "}\n" ∷
    codes "\n" ∷
    codes "const ACTIONS = {\n" ∷
    codes "  first: () => goTo(0),\n" ∷
    codes "  back: () => goTo(shownStep - 1),\n" ∷
    codes "  play: playOrPause,\n" ∷
    codes "  forward: () => goTo(shownStep + 1),\n" ∷
    codes "  last: () => goTo(LAST),\n" ∷
    codes "  \"next-entry\": () => goToNext(isEntry),\n" ∷
    codes "  \"next-refusal\": () => goToNext(isRefusal),\n" ∷
    codes "  \"next-abort\": () => goToNext(isAbort),\n" ∷
    codes "  \"next-message\": () => goToNext(hasMessage),\n" ∷
    codes "};\n" ∷
    codes "\n" ∷
    codes "const KEYS = {\n" ∷
    codes "  Home: \"first\", ArrowLeft: \"back\", \" \": \"play\", ArrowRight: \"forward\", End: \"last\",\n" ∷
    codes "  e: \"next-entry\", r: \"next-refusal\", a: \"next-abort\", m: \"next-message\",\n" ∷
    codes "};\n" ∷
    codes "\n" ∷
    codes "function listen() {\n" ∷
    codes "  for (const [id, action] of Object.entries(ACTIONS)) at(id).addEventListener(\"click\", action);\n" ∷
    codes "  at(\"slider\").addEventListener(\"input\", () => goTo(Number(at(\"slider\").value)));\n" ∷
    codes "  at(\"number\").addEventListener(\"change\", () => goTo(Number(at(\"number\").value)));\n" ∷
    codes "  addEventListener(\"hashchange\", () => showStep(Number(location.hash.slice(1)) || 0));\n" ∷
    codes "  addEventListener(\"keydown\", (event) => {\n" ∷
    codes "    const isField = [\"INPUT\", \"SELECT\", \"BUTTON\", \"SUMMARY\"].includes(event.target.tagName);\n" ∷
    codes "    if (event.ctrlKey || event.altKey || event.metaKey || !(event.key in KEYS)) return;\n" ∷
    codes "    if (isField && (event.key === \" \" || event.target.id === \"number\" || event.target.id === \"block\")) return;\n" ∷
    codes "    event.preventDefault();\n" ∷
    codes "    ACTIONS[KEYS[event.key]]();\n" ∷
    codes "  });\n" ∷
    codes "}\n" ∷
    codes "\n" ∷
    codes "function begin() {\n" ∷
    codes "  keepStates();\n" ∷
    codes "  for (const block of [...blocks].sort()) at(\"block\").append(make(\"option\", block));\n" ∷
    codes "  at(\"slider\").max = at(\"number\").max = LAST;\n" ∷
    codes "  at(\"count\").textContent = \"of \" + LAST;\n" ∷
    codes "  const columns = \"repeat(\" + (RUN.harts + 1) + \", minmax(0, 1fr))\";\n" ∷
    codes "  at(\"columns\").style.gridTemplateColumns = at(\"wires\").style.gridTemplateColumns = columns;\n" ∷
    codes "  listen();\n" ∷
    codes "  showStep(Number(location.hash.slice(1)) || 0);\n" ∷
    codes "}\n" ∷
    codes "\n" ∷
    codes "begin();\n" ∷
    codes "</script>\n" ∷
    codes "</body>\n" ∷
    codes "</html>\n" ∷
    [])
