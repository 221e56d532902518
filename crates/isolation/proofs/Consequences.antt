-- What follows of the machine: values, requests, acknowledgements and lines.
pub mod Searches
pub mod Owners
pub mod ValueInPlace
pub mod Views
pub mod BusyLaws
pub mod RequestLaws
pub mod UnreachableLaws
pub mod AckLaws
pub mod LineLaws
