mod Putting
mod Showing
mod Finding
mod Noting
