mod Heard
mod Lines
mod Talking
mod Verbs
mod Programs
